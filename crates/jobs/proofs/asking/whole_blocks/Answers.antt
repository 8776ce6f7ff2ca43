use Rattle.jobs.specs.Job.{whole_blocks}
use mathlib.Core.Path.{refl}
use Rattle.jobs.proofs.asking.whole_blocks.Goals as goal

pub returns : goal.returns
unfolding whole_blocks
returns c = refl
