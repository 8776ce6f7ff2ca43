-- The words of a path's two blocks, as the code has them and as the definition says them.
-- Assumes nothing.
use Rattle.std.proofs.Common.{◌≡◌, ℕ, zero, suc, ◌+◌, ◌-◌, ◌*◌, ◌<◌, ◌≤◌, List, [], ◌∷◌, ◌++◌, length, get_or, take, drop, set, replicate, sym, refl, ap, ◌∙◌, append_assoc, append-nil, add-one, arith, length-append, length-set, drop_of_length-le, take_all, drop-cons, take-suc-set, take_at, get_or-append-add}
use mathlib.Core.List.{flat_map}
use native.Mathlib.Numerals.{unary_clauses}
use native.Mathlib.Nat.{zero-sub}
use lib.ListN.{length-replicate, length-map, get_or-append}
use lib.Seq.{sets, sets-eq, length-sets, drop-append-le, drop-append-add}
use borrow.Rule.Slice.PartMut.{put_mid}
use Rattle.boxes.specs.Boxes.{◌⋯◌}
use Rattle.boxes.specs.Working.Cuts.{box_in}
use Rattle.boxes.proofs.TwoLists.{lows_in, highs_in, length_in, at_in}
use Rattle.listing.specs.Listing.{Path}
use Rattle.listing.specs.Numbers.{kind_number, reason_word}
use Rattle.blocks.specs.Block.{block_bytes, payload_words, payload, block}
use Rattle.blocks.specs.Layout as place
use Rattle.blocks.specs.Layout.{first_places}
use Rattle.blocks.specs.Record.{record_bytes, most_inputs, padded, exit_word, first_words, ends, second_words, record_of}
use Rattle.blocks.specs.Working.Writing.{put, path_in, with_path}
use Rattle.blocks.specs.declared.record.Ended.{Ended}
use Rattle.blocks.proofs.Bytes.{get_d_padded, payload_length, block_length}
use Rattle.blocks.proofs.Puts.{put_part}
use Rattle.blocks.proofs.Written.{two_blocks}

-- what writes to a part of a list, and to two, leave, as stores one by one
part_sets : (l : List ℕ) (at : ℕ) {ys xs : List ℕ} → ys ≡ xs → at + length xs ≤ length l → put_mid at (at + length xs - at) l ys ≡ sets l at xs
unfolding put
part_sets l at {ys} {xs} e fits = put_part l at (at + length xs - at) e (omega arith) ∙ sym (sets-eq xs l at fits)

two_sets : (l : List ℕ) (at bt : ℕ) {a b xs ys : List ℕ} → a ≡ xs → b ≡ ys → at + length xs ≤ length l → bt + length ys ≤ length l
    → put_mid bt (bt + length ys - bt) (put_mid at (at + length xs - at) l a) b ≡ sets (sets l at xs) bt ys
two_sets l at bt {a} {b} {xs} {ys} e f p q =
    let one : put_mid at (at + length xs - at) l a ≡ sets l at xs = part_sets l at e p in
    part_sets (put_mid at (at + length xs - at) l a) bt f (rw (one, length-sets) q) ∙ ap (λ (t : List ℕ). sets t bt ys) one

-- the first block

pub padded_length : (ws : List ℕ) → length ws ≤ first_places → length (padded ws) ≡ first_places
padded_length ws l = rw (length-append, length-replicate) (omega arith)

pub first_length : (n : ℕ) (p : Path) → length p.box ≤ most_inputs → length (first_words n p) ≡ place.rest
unfolding first_words
first_length n p l = simp (length-append, length-replicate, length-map) (omega arith)

pub drop_zeros : (n m : ℕ) → drop n (replicate {A = ℕ} m 0) ≡ replicate (m - n) 0
drop_zeros zero m = simp unary_clauses
drop_zeros (suc n) zero = rw zero-sub
drop_zeros (suc n) (suc m) = simp unary_clauses (drop_zeros n m)

-- the inputs' words, put where there were zeros
inputs_put : (front rest ws : List ℕ) (at : ℕ) → length front ≡ at → length ws ≤ first_places → sets (front ++ (replicate first_places 0 ++ rest)) at ws ≡ front ++ (padded ws ++ rest)
inputs_put front rest ws at e few =
    let z : length (replicate {A = ℕ} first_places 0) ≡ first_places = length-replicate {A = ℕ} first_places 0 in
    let fits : at + length ws ≤ length (front ++ (replicate first_places 0 ++ rest)) = rw (length-append, length-append) (omega arith) in
    sets-eq ws (front ++ (replicate first_places 0 ++ rest)) at fits
    ∙ rw (
      take_at front (replicate first_places 0 ++ rest) at e,
      ← e,
      drop-append-add front (replicate first_places 0 ++ rest) (length ws),
      drop-append-le (length ws) (replicate first_places 0) rest (omega arith),
      drop_zeros,
      append_assoc front ws,
      append_assoc ws,
    )

-- A block with the lows and the highs of the inputs, at the places that a path's first block and a job's header share.
module _ (front ls hs back : List ℕ) (size : length front ≡ place.lows) (few_lows : length ls ≤ first_places) (few_highs : length hs ≤ first_places) where
  abbrev pub with_ends : List ℕ
  with_ends = front ++ (padded ls ++ (padded hs ++ back))

  -- put where there were zeros
  pub ends_put : sets (sets (front ++ (replicate first_places 0 ++ (replicate first_places 0 ++ back))) place.lows ls) place.highs hs ≡ with_ends
  ends_put =
      let n : length (front ++ padded ls) ≡ place.highs = rw (length-append, padded_length ls few_lows, size) in
      ap (λ (l : List ℕ). sets l place.highs hs)
      (inputs_put front (replicate first_places 0 ++ back) ls place.lows size few_lows ∙ sym (append_assoc front (padded ls) (replicate first_places 0 ++ back)))
      ∙ inputs_put (front ++ padded ls) back hs place.highs n few_highs
      ∙ append_assoc front (padded ls) (padded hs ++ back)

  pub low_at_lem : (i : ℕ) → i < first_places → get_or with_ends (place.lows + i) 0 ≡ get_or ls i 0
  low_at_lem i l =
      rw (← size)
      (get_or-append-add front (padded ls ++ (padded hs ++ back)) i 0
      ∙ get_or-append (padded ls) (padded hs ++ back) 0 i (omega (arith, padded_length ls few_lows))
      ∙ get_d_padded ls (first_places - length ls) i)

  behind_lows : (i : ℕ) → get_or with_ends (place.highs + i) 0 ≡ get_or (padded hs ++ back) i 0
  behind_lows i =
      let e : place.highs + i ≡ length front + (length (padded ls) + i) = omega (arith, padded_length ls few_lows) in
      rw e
      (get_or-append-add front (padded ls ++ (padded hs ++ back)) (length (padded ls) + i) 0
      ∙ get_or-append-add (padded ls) (padded hs ++ back) i 0)

  pub high_at_lem : (i : ℕ) → i < first_places → get_or with_ends (place.highs + i) 0 ≡ get_or hs i 0
  high_at_lem i l =
      behind_lows i
      ∙ get_or-append (padded hs) back 0 i (omega (arith, padded_length hs few_highs))
      ∙ get_d_padded hs (first_places - length hs) i

  pub back_at : (i : ℕ) → get_or with_ends (place.exit_low + i) 0 ≡ get_or back i 0
  back_at i =
      let e : place.exit_low + i ≡ place.highs + (length (padded hs) + i) = omega (arith, padded_length hs few_highs) in
      rw e (behind_lows (length (padded hs) + i) ∙ get_or-append-add (padded hs) back i 0)

module _ (p : Ended) (ls hs rls rhs : List ℕ) (few : length ls ≤ most_inputs) (same : length ls ≡ length hs) (registers : length rls ≡ length rhs) where
  abbrev front : List ℕ
  front = p.number ∷ kind_number p.end ∷ p.pc ∷ p.steps ∷ length ls ∷ []

  abbrev back : List ℕ
  back = exit_word p.end (get_or rls 10 0) ∷ exit_word p.end (get_or rhs 10 0) ∷ reason_word p.end ∷ p.reads ∷ []

  abbrev zeros : List ℕ
  zeros = replicate first_places 0

  abbrev unused : List ℕ
  unused = replicate (payload_words - place.rest) 0

  first_are : first_words p.number (path_in p ls hs rls rhs) ≡ front ++ (padded ls ++ (padded hs ++ back))
  unfolding first_words
  first_are = rw (lows_in ls hs same, highs_in ls hs same, length_in ls hs same, at_in rls rhs registers 10)

  first_is : sets (sets (front ++ (zeros ++ (zeros ++ (back ++ unused)))) place.lows ls) place.highs hs ≡ payload (first_words p.number (path_in p ls hs rls rhs))
  first_is =
      ends_put front ls hs (back ++ unused) refl few (omega arith)
      ∙ rw (first_length p.number (path_in p ls hs rls rhs) (rw (length_in ls hs same) few), first_are) (simp append_assoc)

  -- the words that are stored, each by what it is
  pub first_made : {k x y z : ℕ} {a b : List ℕ} → k ≡ kind_number p.end → x ≡ exit_word p.end (get_or rls 10 0) → y ≡ exit_word p.end (get_or rhs 10 0)
      → z ≡ reason_word p.end → a ≡ ls → b ≡ hs
      → put_mid place.highs (place.highs + length hs - place.highs)
      (put_mid place.lows (place.lows + length ls - place.lows)
      (p.number ∷ k ∷ p.pc ∷ p.steps ∷ length ls ∷ (zeros ++ (zeros ++ (x ∷ y ∷ z ∷ p.reads ∷ unused)))) a) b
      ≡ payload (first_words p.number (path_in p ls hs rls rhs))
  first_made {k} {x} {y} {z} kind low high reason first second =
      let words : List ℕ = p.number ∷ k ∷ p.pc ∷ p.steps ∷ length ls ∷ (zeros ++ (zeros ++ (x ∷ y ∷ z ∷ p.reads ∷ unused))) in
      let size : length words ≡ payload_words = refl in
      two_sets words place.lows place.highs first second (omega arith) (omega arith) ∙ rw (kind, low, high, reason) first_is

-- the second block: two stores more

two_more : (ws : List ℕ) (i x y : ℕ) (z : List ℕ) → suc i < length ws → take (suc (suc i)) (set (set ws i x) (suc i) y) ++ z ≡ take i ws ++ (x ∷ y ∷ z)
two_more ws i x y z h =
    rw (take-suc-set (set ws i x) (suc i) y (rw length-set h), take-suc-set ws i x (omega arith))
    (append_assoc (take i ws ++ (x ∷ [])) (y ∷ []) z ∙ append_assoc (take i ws) (x ∷ []) (y ∷ z))

module _ (ws ls hs : List ℕ) (r : ℕ) (some : 1 ≤ r) (n : length ws ≡ payload_words) (l : length ls ≡ 32) (h : length hs ≡ 32) where
  pub pair_more : r < 32 →
      take (2 * (r + 1) - 1) (set (set ws (2 * r - 1) (get_or ls r 0)) (2 * r) (get_or hs r 0)) ++ ends (drop (r + 1) (box_in ls hs))
      ≡ take (2 * r - 1) ws ++ ends (drop r (box_in ls hs))
  unfolding flat_map
  pair_more more =
      let a : 2 * (r + 1) - 1 ≡ suc (suc (2 * r - 1)) = omega arith in
      let b : 2 * r ≡ suc (2 * r - 1) = omega arith in
      let same : length ls ≡ length hs = omega arith in
      let rest : List ℕ = ends (drop (suc r) (box_in ls hs)) in
      let stored : ℕ → List ℕ = λ k. set (set ws (2 * r - 1) (get_or ls r 0)) k (get_or hs r 0) in
      rw (drop-cons (box_in ls hs) r (0 ⋯ 0) (omega (arith, length_in ls hs same)), at_in ls hs same r, add-one r)
      (ap (λ (k : ℕ). take k (stored (2 * r)) ++ rest) (rw (add-one r) at a)
      ∙ ap (λ (k : ℕ). take (suc (suc (2 * r - 1))) (stored k) ++ rest) b
      ∙ two_more ws (2 * r - 1) (get_or ls r 0) (get_or hs r 0) rest (omega arith))

  pub pairs_done : 32 ≤ r → take (2 * r - 1) ws ++ ends (drop r (box_in ls hs)) ≡ ws
  unfolding flat_map
  pairs_done done =
      let e : length (box_in ls hs) ≡ length ls = length_in ls hs (omega arith) in
      rw (drop_of_length-le (box_in ls hs) {i = r} (omega arith), take_all (2 * r - 1) ws (omega arith)) (append-nil ws)

-- the two blocks, one behind the other, are the path's record

block_payload : (ws : List ℕ) → length ws ≤ payload_words → block (payload ws) ≡ block ws
unfolding block
block_payload ws l = rw (payload_length ws l, append-nil (payload ws))

module _ (l : List ℕ) (at n : ℕ) (p : Path) (inputs : length p.box ≤ most_inputs) (fits : at + record_bytes (length p.box) ≤ length l) where
  pub path_written : {first second bs bs' : List ℕ} → length second ≤ payload_words → first ≡ payload (first_words n p) → second ≡ n ∷ ends (drop 1 p.registers)
      → bs ≡ put l at (block first) → bs' ≡ put bs (at + block_bytes) (block second) → bs' ≡ with_path l at n p
  unfolding record_of second_words put
  path_written {first} {second} few e f a b =
      let ws = first_words n p in
      let n₁ : length ws ≤ payload_words = omega (arith, first_length n p inputs) in
      let n₂ : length first ≤ payload_words = rw (e, payload_length ws n₁) (omega arith) in
      let k : block first ++ block second ≡ record_of n p = rw (e, f, block_payload ws n₁) in
      let m : length (record_of n p) ≡ record_bytes (length p.box) = ap length (sym k) ∙ rw (length-append, block_length first n₂, block_length second few) in
      two_blocks l at first second n₂ fits a b ∙ rw (k, m)
