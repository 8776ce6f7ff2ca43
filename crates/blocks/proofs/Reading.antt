-- The bytes of a path's record, read back, tell the path.
-- Assumes nothing.
use Rattle.std.proofs.Common.{◌≡◌, ℕ, zero, suc, ◌+◌, ◌-◌, ◌*◌, ◌^◌, ◌<◌, ◌≤◌, true, List, [], ◌∷◌, ◌++◌, map, length, get_or, drop, sym, refl, ap, ◌∙◌, append_assoc, append-nil, zero-add, arith, length-append, length-drop, get_or-drop, take_at, ext_get_or, drop_at, eq-eqb}
use mathlib.Core.List.Memᴰ.{head as here}
use mathlib.Core.List.Memᴰ.{tail as there}
use mathlib.Core.List.{flat_map}
use mathlib.Core.Option.{some}
use lib.ListN.{length-map, get_or-append, get_or-eq_default, get_elem?}
use lib.Seq.{get_or_at, drop-append-add}
use Rattle.boxes.specs.Boxes.{Interval, ◌⋯◌, at, from, lows, highs, ◌∈◌}
use Rattle.boxes.proofs.Lists.{length_from, from_at}
use Rattle.listing.specs.Listing.{Path}
use Rattle.listing.specs.Numbers.{kind_number, reason_word}
use Rattle.blocks.specs.Block.{block_bytes, payload_words, check, payload, block, word_at, agrees}
use Rattle.blocks.specs.Layout as place
use Rattle.blocks.specs.Layout.{first_places, low_at, high_at}
use Rattle.blocks.specs.Record.{most_inputs, register_of, exit_of, ends, first_words, second_words, record_of, records, record_bytes}
use Rattle.blocks.specs.Reading.{second, Tells}
use Rattle.blocks.specs.Report.{record_at}
use Rattle.blocks.proofs.Bytes.{word_left, word_at_lem, get_d_padded, payload_length, block_length}
use Rattle.blocks.proofs.Check.{check_word}
use Rattle.blocks.proofs.Rows.{first_length, low_at_lem, high_at_lem, back_at}

abbrev pub Words : List ℕ → Type 0
Words ws = (k : ℕ) → get_or ws k 0 < 2 ^ 64

-- a block of at most 63 words
module _ (ws : List ℕ) (few : length ws ≤ payload_words) where
  pub block_word : Words ws → (k : ℕ) → k < payload_words → word_at (block ws) k ≡ get_or ws k 0
  unfolding block
  block_word h k i =
      let n = payload_length ws few in
      let e : get_or (payload ws ++ (check (payload ws) ∷ [])) k 0 ≡ get_or ws k 0 =
      get_or-append (payload ws) _ 0 k (omega arith) ∙ get_d_padded ws (payload_words - length ws) k in
      word_at_lem (payload ws ++ (check (payload ws) ∷ [])) k (rw (length-append, n) (omega arith)) (rw e (h k)) ∙ e

  pub block_check : word_at (block ws) payload_words ≡ check (payload ws)
  unfolding block
  block_check =
      let n = payload_length ws few in
      let e : get_or (payload ws ++ (check (payload ws) ∷ [])) payload_words 0 ≡ check (payload ws) = get_or_at (payload ws) (check (payload ws)) [] 0 payload_words n in
      word_at_lem (payload ws ++ (check (payload ws) ∷ [])) payload_words (rw (length-append, n) (omega arith)) (rw e (check_word (payload ws) (omega arith))) ∙ e

  -- bytes that begin with the words of the block
  pub reads_agree : (bytes : List ℕ) → ((k : ℕ) → k < payload_words → word_at bytes k ≡ get_or ws k 0) → word_at bytes payload_words ≡ check (payload ws) → agrees bytes ≡ true
  reads_agree bytes h e =
      let n = payload_length ws few in
      let words : List ℕ = map (word_at bytes) (from 0 payload_words) in
      let same : words ≡ payload ws =
      sym (ext_get_or 0 (payload ws) words (n ∙ sym (length-map (from 0 payload_words) (word_at bytes) ∙ length_from payload_words 0))
      (λ k i. let m : k < payload_words = omega arith in
      get_d_padded ws (payload_words - length ws) k ∙ sym (h k m) ∙ sym (from_at (word_at bytes) 0 payload_words 0 k m ∙ ap (word_at bytes) (zero-add k)))) in
      eq-eqb (check words) (word_at bytes payload_words) (ap check same ∙ sym e)

  -- the block in front of others, and alone
  pub front_agrees : (rest : List ℕ) → Words ws → agrees (block ws ++ rest) ≡ true
  front_agrees rest h =
      let n = block_length ws few in
      reads_agree (block ws ++ rest)
      (λ k l. word_left (block ws) rest k (omega (arith, n)) ∙ block_word h k l)
      (word_left (block ws) rest payload_words (omega (arith, n)) ∙ block_check)

  block_agrees_lem : Words ws → agrees (block ws) ≡ true
  block_agrees_lem h = rw append-nil at (front_agrees [] h)

-- low and high of each interval in turn

ends_length : (vs : List Interval) → length (ends vs) ≡ 2 * length vs
unfolding flat_map
ends_length [] = refl
ends_length (v ∷ vs) = omega (arith, ends_length vs)

ends_at : (vs : List Interval) (i : ℕ)
    → (get_or (ends vs) (2 * i) 0 ≡ (get_or vs i (0 ⋯ 0)).low) × (get_or (ends vs) (2 * i + 1) 0 ≡ (get_or vs i (0 ⋯ 0)).high)
unfolding flat_map
ends_at [] i = (refl, refl)
ends_at (v ∷ vs) zero = (refl, refl)
ends_at (v ∷ vs) (suc i) =
    let a : 2 * suc i ≡ suc (suc (2 * i)) = omega arith in
    let b : 2 * suc i + 1 ≡ suc (suc (2 * i + 1)) = omega arith in
    (rw a (ends_at vs i).0, rw b (ends_at vs i).1)

-- a path whose numbers fit the words
pub record Fits (n : ℕ) (p : Path) : Type 0 where
  pub inputs : length p.box ≤ most_inputs
  pub registers : length p.registers ≡ 32
  pub first : Words (first_words n p)
  pub second : Words (second_words n p)

-- the words of the two blocks
module _ (n : ℕ) (p : Path) (inputs : length p.box ≤ most_inputs) (registers : length p.registers ≡ 32) where
  abbrev head : List ℕ
  head = n ∷ kind_number p.end ∷ p.pc ∷ p.steps ∷ length p.box ∷ []

  abbrev tail : List ℕ
  tail = (exit_of p).low ∷ (exit_of p).high ∷ reason_word p.end ∷ p.reads ∷ []

  second_length : length (second_words n p) ≡ payload_words
  unfolding second_words
  second_length = omega (arith, ends_length (drop 1 p.registers), length-drop 1 p.registers)

  few_lows : length (lows p.box) ≤ most_inputs
  few_lows = rw length-map inputs

  few_highs : length (highs p.box) ≤ most_inputs
  few_highs = rw length-map inputs

  first_low : (i : ℕ) → i < first_places → get_or (first_words n p) (place.lows + i) 0 ≡ at (lows p.box) i
  unfolding first_words
  first_low = low_at_lem head (lows p.box) (highs p.box) tail refl few_lows few_highs

  first_high : (i : ℕ) → i < first_places → get_or (first_words n p) (place.highs + i) 0 ≡ at (highs p.box) i
  unfolding first_words
  first_high = high_at_lem head (lows p.box) (highs p.box) tail refl few_lows few_highs

  first_tail : (i : ℕ) → get_or (first_words n p) (place.exit_low + i) 0 ≡ get_or tail i 0
  unfolding first_words
  first_tail = back_at head (lows p.box) (highs p.box) tail refl few_lows few_highs

  second_at : (r : ℕ)
      → (get_or (second_words n p) (1 + 2 * r) 0 ≡ (register_of p (1 + r)).low)
      × (get_or (second_words n p) (2 + 2 * r) 0 ≡ (register_of p (1 + r)).high)
  unfolding second_words
  second_at r =
      let e = ends_at (drop 1 p.registers) r in
      let a : 1 + 2 * r ≡ suc (2 * r) = omega arith in
      let b : 2 + 2 * r ≡ suc (2 * r + 1) = omega arith in
      let g = get_or-drop 1 p.registers r (0 ⋯ 0) in
      (rw a (e.0 ∙ ap (λ (v : Interval). v.low) g), rw b (e.1 ∙ ap (λ (v : Interval). v.high) g))

  pub first_few : length (first_words n p) ≤ payload_words
  first_few = omega (arith, first_length n p inputs)

  pub second_few : length (second_words n p) ≤ payload_words
  second_few = omega (arith, second_length)

  pub record_length : length (record_of n p) ≡ record_bytes (length p.box)
  unfolding record_of
  record_length = rw (length-append, block_length (first_words n p) first_few, block_length (second_words n p) second_few)

module _ (n : ℕ) (p : Path) (f : Fits n p) where
  abbrev bytes : List ℕ
  bytes = record_of n p

  few : length (first_words n p) ≤ payload_words
  few = first_few n p f.inputs f.registers

  few_again : length (second_words n p) ≤ payload_words
  few_again = second_few n p f.inputs f.registers

  in_first : (k : ℕ) → k ≤ payload_words → word_at bytes k ≡ word_at (block (first_words n p)) k
  unfolding record_of
  in_first k l = word_left (block (first_words n p)) (block (second_words n p)) k (rw (block_length (first_words n p) few) (omega arith))

  first_word : (k : ℕ) → k < payload_words → word_at bytes k ≡ get_or (first_words n p) k 0
  first_word k l = in_first k (omega arith) ∙ block_word (first_words n p) few f.first k l

  second_is : second bytes ≡ block (second_words n p)
  unfolding record_of
  second_is = drop_at (block (first_words n p)) (block (second_words n p)) block_bytes (block_length (first_words n p) few)

  second_word : (k : ℕ) → k < payload_words → word_at (second bytes) k ≡ get_or (second_words n p) k 0
  second_word k l = rw second_is (block_word (second_words n p) few_again f.second k l)

  tail_word : (i : ℕ) → place.exit_low + i < payload_words → word_at bytes (place.exit_low + i) ≡ get_or (tail n p f.inputs f.registers) i 0
  tail_word i l = first_word (place.exit_low + i) l ∙ first_tail n p f.inputs f.registers i

  register_word : (r : ℕ) → r < 31 → (word_at (second bytes) (1 + 2 * r) ≡ (register_of p (1 + r)).low) × (word_at (second bytes) (2 + 2 * r) ≡ (register_of p (1 + r)).high)
  register_word r l =
      let e = second_at n p f.inputs f.registers r in
      (second_word (1 + 2 * r) (omega arith) ∙ e.0, second_word (2 + 2 * r) (omega arith) ∙ e.1)

  pub record_tells : Tells bytes n p
  unfolding first_words second_words low_at high_at
  record_tells =
      record {
        size = record_length n p f.inputs f.registers;
        number = first_word place.number (omega arith);
        kind = first_word place.kind (omega arith);
        pc = first_word place.pc (omega arith);
        steps = first_word place.steps (omega arith);
        inputs = first_word place.inputs (omega arith);
        low = λ i l. first_word (place.lows + i) (omega arith) ∙ first_low n p f.inputs f.registers i l;
        high = λ i l. first_word (place.highs + i) (omega arith) ∙ first_high n p f.inputs f.registers i l;
        exit_low = tail_word 0 (omega arith);
        exit_high = tail_word 1 (omega arith);
        reason = tail_word 2 (omega arith);
        reads = tail_word 3 (omega arith);
        rest = λ k l m. first_word k m ∙ get_or-eq_default (first_words n p) 0 {n = k} (omega (arith, first_length n p f.inputs));
        checks = unfold record_of in front_agrees (first_words n p) few (block (second_words n p)) f.first;
        number_again = second_word 0 (omega arith);
        register_low = λ r l m.
            let (a, b) = register_word (r - 1) (omega arith) in
            let e : 2 * r - 1 ≡ 1 + 2 * (r - 1) = omega arith in
            let z : r ≡ 1 + (r - 1) = omega arith in
            rw e (a ∙ ap (λ (x : ℕ). (register_of p x).low) (sym z));
        register_high = λ r l m.
            let (a, b) = register_word (r - 1) (omega arith) in
            let e : 2 * r ≡ 2 + 2 * (r - 1) = omega arith in
            let z : r ≡ 1 + (r - 1) = omega arith in
            rw e (b ∙ ap (λ (x : ℕ). (register_of p x).high) (sym z));
        checks_again = rw second_is (block_agrees_lem (second_words n p) few_again f.second);
      }

-- the records of a list of paths

pub records_append : (n : ℕ) (ps qs : List Path) → records n (ps ++ qs) ≡ records n ps ++ records (n + length ps) qs
unfolding records
records_append n [] qs = let e : n + 0 ≡ n = omega arith in rw e
records_append n (p ∷ ps) qs =
    let e : n + 1 + length ps ≡ n + suc (length ps) = omega arith in
    rw (records_append (n + 1) ps qs, e, append_assoc)

-- n is the input count of the paths, m the number of the first
pub records_length : (n m : ℕ) (ps : List Path) → ((p : Path) → p ∈ ps → (length p.box ≤ most_inputs) × (length p.registers ≡ 32))
    → length (records m ps) ≡ record_bytes n * length ps
unfolding records
records_length n m [] h = refl
records_length n m (p ∷ ps) h =
    let (a, b) = h p (here refl) in
    omega (
      arith,
      length-append (record_of m p) (records (m + 1) ps),
      record_length m p a b,
      records_length n (m + 1) ps (λ q i. h q (there i)),
    )

-- the record of one of them
pub records_at : (n m : ℕ) (ps : List Path) → ((p : Path) → p ∈ ps → (length p.box ≤ most_inputs) × (length p.registers ≡ 32))
    → (i : ℕ) (p : Path) → get_elem? ps i ≡ some p → record_at n (records m ps) i ≡ record_of (m + i) p
unfolding records
records_at n m [] h i p e = let z : ◌≡◌ {A = ℕ} 0 1 = cc in absurd (omega arith)
records_at n m (q ∷ ps) h zero p e =
    let (a, b) = h q (here refl) in
    let z : q ≡ p = cc in
    let y : m + 0 ≡ m = omega arith in
    rw (take_at (record_of m q) (records (m + 1) ps) (record_bytes n) (record_length m q a b), z, y)
records_at n m (q ∷ ps) h (suc i) p e =
    let (a, b) = h q (here refl) in
    let y : record_bytes n * suc i ≡ length (record_of m q) + record_bytes n * i = omega (arith, record_length m q a b) in
    let x : m + suc i ≡ m + 1 + i = omega arith in
    rw (y, drop-append-add (record_of m q) (records (m + 1) ps) (record_bytes n * i), x) (records_at n (m + 1) ps (λ r k. h r (there k)) i p e)
