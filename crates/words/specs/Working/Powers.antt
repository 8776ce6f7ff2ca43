-- The powers of two, as the code's table holds them. No rule asks for one since document 02, No. 5: the table stays for No. 9, where a
-- shift by w is a product with 2^w.
use Rattle.std.specs.Prelude.{ℕ, zero, suc, ◌^◌, List, [], ◌∷◌}

-- `count` powers of two, from 2^k on
unfoldable pub powers_from : ℕ → ℕ → List ℕ
powers_from k zero = []
powers_from k (suc count) = 2 ^ k ∷ powers_from (suc k) count
