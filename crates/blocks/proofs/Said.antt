-- What the reader of a record finds is what the path says.
-- Assumes nothing.
use Rattle.std.proofs.Common.{◌≡◌, ℕ, zero, suc, ◌+◌, ◌<◌, ◌≤◌, List, [], ◌∷◌, ◌++◌, map, length, refl, ap, ◌∙◌, append_assoc, zero-add, arith, ext_get_or}
use mathlib.Core.List.Memᴰ.{head as here}
use mathlib.Core.List.Memᴰ.{tail as there}
use lib.ListN.{length-map}
use Rattle.boxes.specs.Boxes.{◌⋯◌, from, ◌∈◌}
use Rattle.boxes.proofs.Choices.{lows_at, highs_at}
use Rattle.boxes.proofs.Lists.{from_at, length_from}
use Rattle.listing.specs.Listing.{Path}
use Rattle.blocks.specs.Layout.{input_places, low_at, high_at}
use Rattle.blocks.specs.Reading.{Tells}
use Rattle.blocks.specs.Record.{most_inputs, record_words, record_bytes, record_of, records}
use Rattle.blocks.specs.Said.{Said, input_in, said_in, said_at, first_said, said_of, said_of_all}
use Rattle.blocks.proofs.Reading.{Fits, record_length, record_tells}
use Rattle.blocks.proofs.Records.{record_first, record_behind}

-- a record of n inputs has places for them
pub places_enough : (n : ℕ) → n ≤ most_inputs → n ≤ input_places n
places_enough n few = omega arith

pub low_inside : (n i : ℕ) → i < n → n ≤ most_inputs → low_at n i < record_words n
unfolding low_at
low_inside n i l few = omega arith

pub high_inside : (n i : ℕ) → i < n → n ≤ most_inputs → high_at n i < record_words n
unfolding high_at
high_inside n i l few = omega arith

-- bytes that tell of path n that it is p
module _ {bytes : List ℕ} {n : ℕ} {p : Path} (t : Tells bytes n p) (few : length p.box ≤ most_inputs) where
  abbrev m : ℕ
  m = length p.box

  box_told : (said_in m bytes).box ≡ p.box
  box_told =
      let size = length-map (from 0 m) (input_in m bytes) ∙ length_from m 0 in
      ext_get_or (0 ⋯ 0) (map (input_in m bytes) (from 0 m)) p.box size
      (λ i l.
      let here : i < input_places m = omega (arith, size, places_enough m few) in
      from_at (input_in m bytes) (0 ⋯ 0) m 0 i (omega (arith, size))
      ∙ rw zero-add (λ q. (t.low i here ∙ lows_at p.box i) q ⋯ (t.high i here ∙ highs_at p.box i) q))

  pub said_told : said_in m bytes ≡ said_of n p
  said_told = λ q. record {
    number = t.number q;
    kind = t.kind q;
    pc = t.pc q;
    steps = t.steps q;
    box = box_told q;
    exit = t.exit_low q ⋯ t.exit_high q;
    reason = t.reason q;
    reads = t.reads q;
  }

-- behind a record stand those of the rest
behind : (m : ℕ) (x rest : List ℕ) → length x ≡ record_bytes m → (k n : ℕ) → map (said_at m (x ++ rest)) (from (suc k) n) ≡ map (said_at m rest) (from k n)
unfolding from
behind m x rest e k zero = refl
behind m x rest e k (suc n) = rw (record_behind m x rest e k, behind m x rest e (suc k) n)

-- a report that begins with the records of some paths, each with m inputs
pub all_told : (m top : ℕ) (rest : List ℕ) (n : ℕ) (ps : List Path) → n + length ps ≤ top → ((p : Path) → p ∈ ps → (k : ℕ) → k < top → Fits k p)
    → ((p : Path) → p ∈ ps → length p.box ≡ m) → first_said m (length ps) (records n ps ++ rest) ≡ said_of_all n ps
unfolding records said_of_all from
all_told m top rest n [] l f e = refl
all_told m top rest n (p ∷ ps) l f e =
    let g = f p (here refl) n (omega arith) in
    let size = record_length n p g.inputs g.registers in
    let told : said_in m (record_of n p) ≡ said_of n p = rw (e p (here refl)) at (said_told (record_tells n p g) g.inputs) in
    rw (
      append_assoc (record_of n p) (records (n + 1) ps) rest,
      record_first m (record_of n p) (records (n + 1) ps ++ rest) size,
      told,
    )
    (ap (λ (t : List Said). said_of n p ∷ t)
    (ap (λ (r : List ℕ). map (said_at m r) (from 1 (length ps))) (append_assoc (record_of n p) (records (n + 1) ps) rest)
    ∙ behind m (record_of n p) (records (n + 1) ps ++ rest) size 0 (length ps)
    ∙ all_told m top rest (n + 1) ps (omega arith) (λ q i. f q (there i)) (λ q i. e q (there i))))
