use Rattle.straight.proofs.Entries.{decided_within}
use Rattle.straight.specs.Working.Stepped.{none, more}
use native.Mathlib.Omega.{arith}
use Rattle.straight.proofs.steps.straight_steps.Goals as goal

pub loop-ran-init : goal.loop-ran-init
loop-ran-init c = none

pub overflow_add-used-in-loop-ran : goal.overflow_add-used-in-loop-ran
overflow_add-used-in-loop-ran c = omega (arith, decided_within c.in-Some.ensures)

pub loop-ran-preserved : goal.loop-ran-preserved
loop-ran-preserved c = more c.loop-ran.invariant c.in-Some.ensures
