use Rattle.lockstep.specs.Working.LockStep.{both, lock_steps}
use Prim.Native.Nat.{◌-◌, ◌≤◌}
use mathlib.Core.Path.{◌≡◌}
use Rattle.straight.proofs.replaying.proceed_both.Given as goal

abbrev pub invariant-loop-so_far : goal.invariant-loop-so_far
invariant-loop-so_far l =
    (l.so_far.steps ≤ l.n) × (both l.so_far.at l.m ≡ lock_steps l.lows l.highs l.code l.so_far.steps (both l.initial.so_far.at l.initial.m))

abbrev pub decreases-loop-so_far : goal.decreases-loop-so_far
decreases-loop-so_far l = l.n - l.so_far.steps
