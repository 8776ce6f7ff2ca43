-- `blocks::layout::high_at` meets its contract.
-- Assumes nothing.
use Rattle.std.proofs.Common.{refl}
use Rattle.blocks.specs.Layout.{high_at}
use Rattle.blocks.proofs.layout.high_at.Goals as goal

pub returns : goal.returns
unfolding high_at
returns c = refl
