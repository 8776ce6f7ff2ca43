use Rattle.straight.specs.Working.Stepped.{place, StraightRun}
use Prim.Native.Nat.{◌-◌}
use Rattle.straight.proofs.steps.straight_steps.Given as goal

abbrev pub invariant-loop-ran : goal.invariant-loop-ran
invariant-loop-ran l =
    StraightRun l.code l.limits (place l.initial.ran.used l.initial.ran.at l.initial.m) (place l.ran.used l.ran.at l.m)

abbrev pub decreases-loop-ran : goal.decreases-loop-ran
decreases-loop-ran l = l.limits.steps - l.ran.used.steps
