-- A test of numbers in a row, as one of the numbers of a range.
-- Assumes nothing.
use mathlib.Core.Path.{◌≡◌, refl, ap}
use mathlib.Core.Bool.{Bool, ◌&&◌}
use Prim.Native.Nat.{ℕ, zero, suc}
use native.Mathlib.Numerals.{add-one}
use Rattle.std.specs.List.{list_all, range_with_len}
use Rattle.blocks.specs.Block.{each}

pub each_range : (p : ℕ → Bool) (k n : ℕ) → list_all p (range_with_len k n) ≡ each p k n
unfolding each
each_range p k zero = refl
each_range p k (suc n) = rw (add-one k) (ap (λ (b : Bool). p k && b) (each_range p (suc k) n))
