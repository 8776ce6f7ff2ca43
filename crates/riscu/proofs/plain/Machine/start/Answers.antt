use mathlib.Core.Path.{refl}
use Rattle.riscu.specs.Machine.{start}
use Rattle.riscu.proofs.plain.Machine.start.Goals as goal

pub returns : goal.returns
unfolding start
returns c = λ m. refl
