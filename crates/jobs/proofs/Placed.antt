-- The words of a job as the code finds them. Assumes nothing.
use mathlib.Core.Path.{◌≡◌}
use mathlib.Core.Bool.{cond}
use mathlib.Core.List.{List}
use Prim.Native.Nat.{ℕ, ◌+◌, ◌*◌, ◌/◌, ◌%◌, ◌≤◌, ◌<◌}
use native.Mathlib.Omega.{arith}
use borrow.Author.Tests.{eq-eqb, ne_eqb}
use lib.Dec.{eqb}
use lib.ListN.{length, drop_of_length-le}
use Rattle.blocks.specs.Block.{word_bytes, block_words, payload_words, number_of, word_at}
use Rattle.jobs.specs.Job.{payload_at}
use Rattle.jobs.specs.Working.Reading.{Whole}

-- past the end of whole blocks a word is 0
pub word_past : (bytes : List ℕ) (k : ℕ) → Whole bytes → length bytes / word_bytes ≤ k → 0 ≡ word_at bytes k
unfolding number_of
word_past bytes k w h = let past : length bytes ≤ k * word_bytes = omega arith in rw (drop_of_length-le bytes past)

-- a word of the header that is counted as one of its payload
pub header_payload : (bytes : List ℕ) (i : ℕ) → i < payload_words → payload_at bytes 0 i ≡ word_at bytes i
unfolding payload_at
header_payload bytes i l = let e : (0 + i / payload_words) * block_words + i % payload_words ≡ i = omega arith in rw e

-- word r of the block that is q further on
pub payload_word : (bytes : List ℕ) (b q r : ℕ) → r < payload_words → payload_at bytes b (q * payload_words + r) ≡ word_at bytes ((b + q) * block_words + r)
unfolding payload_at
payload_word bytes b q r l =
    let d : (q * payload_words + r) / payload_words ≡ q = omega arith in
    let m : (q * payload_words + r) % payload_words ≡ r = omega arith in
    rw (d, m)

-- the even and the odd of two
pub even : (j a b : ℕ) → j % 2 ≡ 0 → a ≡ cond (eqb (j % 2) 0) a b
even j a b e = rw (eq-eqb (j % 2) 0 e)

pub odd : (j a b : ℕ) → (j % 2 ≡ 0 → ⊥) → b ≡ cond (eqb (j % 2) 0) a b
odd j a b d = rw (ne_eqb (j % 2) 0 d)
