use lib.Dec.{ltb}
use Rattle.decide.proofs.Decisions.{writes_small}
use native.Mathlib.Omega.{arith}
use Rattle.explorer.proofs.Task.step_on.Goals as goal

pub overflow_add-s-2 : goal.overflow_add-s-2
overflow_add-s-2 c =
    let a = c.args in
    let small = writes_small (ltb a.s.at.low.reads a.self.limits.inputs) a.i in
    omega (arith, c.requires.1, c.writes-w.ensures, small)
