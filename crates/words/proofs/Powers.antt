-- The rule of the table of the powers of two, at each of its entries. Assumes nothing.
use Rattle.std.proofs.Common.{◌≡◌, ℕ, zero, suc, ◌+◌, ◌^◌, ◌<◌, List, get_or, add-zero, add-suc, suc-add, zero-add, arith}
use Rattle.words.specs.Working.Powers.{powers_from}

entry_from : (k count i : ℕ) → i < count → get_or (powers_from k count) i 0 ≡ 2 ^ (k + i)
unfolding powers_from
entry_from k zero i h = absurd (omega arith)
entry_from k (suc count) zero h = rw add-zero
entry_from k (suc count) (suc i) h = rw (add-suc, ← suc-add) (entry_from (suc k) count i (omega arith))

-- the fact about the whole table, at each of its entries
pub entry : (table : List ℕ) → table ≡ powers_from 0 64 → (k : ℕ) → k < 64 → get_or table k 0 ≡ 2 ^ k
entry table whole k h = rw whole (rw zero-add at (entry_from 0 64 k h))
