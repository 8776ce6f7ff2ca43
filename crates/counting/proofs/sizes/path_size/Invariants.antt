-- `counting::sizes::path_size` meets its contract: the widths multiplied up; the product is no more than the size.
-- Assumes nothing.
use lib.ListN.{drop}
use Rattle.blocks.specs.Said.{said_at}
use Rattle.counting.proofs.Products.{Multiplied}
use Rattle.counting.proofs.sizes.path_size.Given as goal

abbrev pub invariant-loop-i : goal.invariant-loop-i
invariant-loop-i l =
    let b = (said_at l.inputs l.report l.k).box in
    Multiplied b (drop l.i b) l.n
