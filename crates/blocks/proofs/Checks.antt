-- Every check of records that are written agrees.
-- Assumes nothing.
use Rattle.std.proofs.Common.{◌≡◌, ℕ, zero, suc, ◌+◌, ◌*◌, ◌<◌, ◌≤◌, Bool, true, List, [], ◌∷◌, ◌++◌, length, refl, ◌∙◌, append_assoc, arith, length-append}
use mathlib.Core.List.Memᴰ.{head as here}
use mathlib.Core.List.Memᴰ.{tail as there}
use lib.Seq.{drop-append-add}
use Rattle.boxes.specs.Boxes.{◌∈◌}
use Rattle.listing.specs.Listing.{Path}
use Rattle.blocks.specs.Block.{block_bytes, payload_words, block, block_count, each, block_agrees, checks_agree}
use Rattle.blocks.specs.Record.{first_words, second_words, record_of, records}
use Rattle.blocks.proofs.Bytes.{block_length}
use Rattle.blocks.proofs.Reading.{Words, Fits, front_agrees, first_few, second_few}

-- a test of the numbers one further on
each_behind : (p q : ℕ → Bool) → ((k : ℕ) → p (suc k) ≡ q k) → (n k : ℕ) → each p (suc k) n ≡ each q k n
unfolding each
each_behind p q h zero k = refl
each_behind p q h (suc n) k = rw (h k, each_behind p q h n (suc k))

-- a block in front of others
module _ (ws rest : List ℕ) (few : length ws ≤ payload_words) where
  behind : (k : ℕ) → block_agrees (block ws ++ rest) (suc k) ≡ block_agrees rest k
  behind k =
      let e : suc k * block_bytes ≡ length (block ws) + k * block_bytes = omega (arith, block_length ws few) in
      rw (e, drop-append-add (block ws) rest (k * block_bytes))

  pub checks_block : Words ws → checks_agree (block ws ++ rest) ≡ checks_agree rest
  unfolding checks_agree each
  checks_block h =
      let e : block_count (block ws ++ rest) ≡ suc (block_count rest) = rw length-append (omega (arith, block_length ws few)) in
      rw (e, front_agrees ws few rest h) (each_behind (block_agrees (block ws ++ rest)) (block_agrees rest) behind (block_count rest) 0)

-- the records of paths whose numbers fit, with any number in use
pub checks_records : (m : ℕ) (ps : List Path) → ((p : Path) → p ∈ ps → (n : ℕ) → n < m + length ps → Fits n p) → checks_agree (records m ps) ≡ true
unfolding records record_of
checks_records m [] h = unfold checks_agree each in refl
checks_records m (p ∷ ps) h =
    let f = h p (here refl) m (omega arith) in
    rw append_assoc
    (checks_block (first_words m p) (block (second_words m p) ++ records (m + 1) ps) (first_few m p f.inputs f.registers) f.first
    ∙ checks_block (second_words m p) (records (m + 1) ps) (second_few m p f.inputs f.registers) f.second
    ∙ checks_records (m + 1) ps (λ q i n l. h q (there i) n (omega arith)))
