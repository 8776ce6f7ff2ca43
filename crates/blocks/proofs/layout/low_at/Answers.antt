-- `blocks::layout::low_at` meets its contract.
-- Assumes nothing.
use Rattle.std.proofs.Common.{refl}
use Rattle.blocks.specs.Layout.{low_at}
use Rattle.blocks.proofs.layout.low_at.Goals as goal

pub returns : goal.returns
unfolding low_at
returns c = refl
