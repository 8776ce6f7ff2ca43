use Rattle.lockstep.specs.Working.LockStep.{lock_steps}
use Prim.Native.Nat.{zero-le}
use mathlib.Core.Path.{refl}
use Rattle.straight.proofs.replaying.proceed_both.Goals as goal

pub loop-so_far-init : goal.loop-so_far-init
unfolding lock_steps
loop-so_far-init c = (zero-le, refl)
