use Rattle.straight.proofs.Onward.{runs_rise, runs_within, runs_onward, onward_one}
use native.Mathlib.Omega.{arith}
use Rattle.straight.proofs.replaying.some_steps.Goals as goal

pub returns-then-n-steps : goal.returns-then-n-steps
returns-then-n-steps c =
    let a = c.args in
    let r = c.straight_steps-ran.ensures in
    let n = c.if-n-steps.true in
    record {
      steps_lt_steps = (omega (arith, c.requires), runs_within (omega (arith, c.requires)) r);
      fact = runs_onward a.lows.now a.highs.now r;
    }

pub returns : goal.returns
returns c =
    let a = c.args in
    let r = c.straight_steps-ran.ensures in
    let l = c.if-n-steps.false in
    record {
      steps_lt_steps = (omega (arith, runs_rise r), omega arith);
      fact = onward_one a.lows.now a.highs.now a.code.now _ _ _ _ _ (runs_onward a.lows.now a.highs.now r) c.advance_next-at.ensures;
    }
