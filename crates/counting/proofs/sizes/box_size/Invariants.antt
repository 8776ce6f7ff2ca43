-- `counting::sizes::box_size` meets its contract: the widths multiplied up, as long as the product is a word.
-- Assumes nothing.
use mathlib.Core.Path.{◌≡◌}
use Prim.Native.Nat.{◌^◌, ◌<◌}
use Rattle.std.specs.Slice.Iter.{chunks_exact_size, chunks_exact_rest}
use Rattle.calls.specs.Call.{box_of}
use Rattle.counting.proofs.Products.{Multiplied}
use Rattle.counting.proofs.sizes.box_size.Given as goal

abbrev pub invariant-loop-pair : goal.invariant-loop-pair
invariant-loop-pair l =
    (chunks_exact_size l.pair-iterator ≡ 2) × (l.n < 2 ^ 64) × Multiplied (box_of l.intervals) (box_of (chunks_exact_rest l.pair-iterator)) l.n
