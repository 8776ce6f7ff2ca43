-- The code, two words to a payload word: its halves are the code words again.
-- Assumes nothing.
use mathlib.Core.Path.{◌≡◌, sym, ap, ◌∙◌}
use mathlib.Core.List.{List}
use Prim.Native.Nat.{ℕ, ◌+◌, ◌*◌, ◌/◌, ◌%◌, ◌^◌, ◌≤◌, ◌<◌}
use native.Mathlib.Nat.{zero-add}
use native.Mathlib.Omega.{arith}
use borrow.Author.Tests.{ltb-true, ltb-false, eqb-true, eqb-false}
use lib.Dec.{ltb, eqb}
use lib.ListN.{length, get_or, get_or-eq_default}
use Rattle.boxes.specs.Boxes.{from}
use Rattle.boxes.proofs.Lists.{by_test, from_at}
use Rattle.blocks.proofs.Reading.{Words}
use Rattle.calls.specs.Call.{Below}
use Rattle.jobs.specs.Job.{code_payload, half}
use Rattle.jobs.proofs.Copied.{copied}
use Rattle.jobs.proofs.Typed.{map_below}
use Rattle.writing.specs.Form.{code_pair, code_pairs}

pub pairs_count : (code : List ℕ) → length (code_pairs code) ≡ code_payload (length code)
unfolding code_pairs
pairs_count code = copied (code_pair code) (code_payload (length code))

-- past the last pair there is no code word
none_left : (code : List ℕ) (i : ℕ) → code_payload (length code) ≤ i → code_pair code i ≡ 0
none_left code i h =
    rw (get_or-eq_default code 0 {n = 2 * i} (omega arith), get_or-eq_default code 0 {n = 2 * i + 1} (omega arith))

payload_at_lem : (code : List ℕ) (i : ℕ) → get_or (code_pairs code) i 0 ≡ code_pair code i
unfolding code_pairs
payload_at_lem code i =
    let n = code_payload (length code) in
    by_test (ltb i n)
    (λ e. from_at (code_pair code) 0 n 0 i (ltb-true i n e) ∙ ap (code_pair code) (zero-add i))
    (λ e.
    let past : n ≤ i = ltb-false i n e in
    get_or-eq_default (code_pairs code) 0 {n = i} (omega (arith, pairs_count code)) ∙ sym (none_left code i past))

low_half : (a b : ℕ) → a < 2 ^ 32 → (a + 2 ^ 32 * b) % 2 ^ 32 ≡ a
low_half a b h = omega arith

high_half : (a b : ℕ) → a < 2 ^ 32 → (a + 2 ^ 32 * b) / 2 ^ 32 ≡ b
high_half a b h = omega arith

pair_below : (a b : ℕ) → a < 2 ^ 32 → b < 2 ^ 32 → a + 2 ^ 32 * b < 2 ^ 64
pair_below a b h g = omega arith

module _ (code : List ℕ) (typed : Below (2 ^ 32) code) where
  pub pairs_words : Words (code_pairs code)
  unfolding code_pairs
  pairs_words =
      map_below (2 ^ 64) (code_pair code) (from 0 (code_payload (length code))) (omega arith)
      (λ i. pair_below _ _ (typed (2 * i)) (typed (2 * i + 1)))

  -- half k of the payload words is code word k
  pub half_at : (k : ℕ) → half k (get_or (code_pairs code) (k / 2) 0) ≡ get_or code k 0
  half_at k =
      let i = k / 2 in
      let a = get_or code (2 * i) 0 in
      let b = get_or code (2 * i + 1) 0 in
      rw (payload_at_lem code i)
      (by_test (eqb (k % 2) 0)
      (λ e.
      let m = eqb-true (k % 2) 0 e in
      let z : 2 * i ≡ k = omega arith in
      rw e (low_half a b (typed (2 * i)) ∙ ap (λ (n : ℕ). get_or code n 0) z))
      (λ e.
      let m = eqb-false (k % 2) 0 e in
      let z : 2 * i + 1 ≡ k = omega arith in
      rw e (high_half a b (typed (2 * i)) ∙ ap (λ (n : ℕ). get_or code n 0) z)))
