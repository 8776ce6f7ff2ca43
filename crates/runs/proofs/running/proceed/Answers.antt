use Rattle.runs.proofs.Steps.{one_more}
use Rattle.riscu.specs.Machine.{run}
use mathlib.Core.Path.{refl}
use Rattle.runs.proofs.running.proceed.Goals as goal

pub loop-init : goal.loop-init
unfolding run
loop-init c = refl

pub loop-preserved : goal.loop-preserved
loop-preserved c =
    let a = c.args in
    let l = c.loop in
    one_more a.code.now a.inputs.now _ l.counter _ _ l.invariant c.step_at-at.ensures
