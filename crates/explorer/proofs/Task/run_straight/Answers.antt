use Rattle.explorer.proofs.StraightOn.{runs_on}
use Rattle.explorer.proofs.Task.run_straight.Goals as goal

pub returns : goal.returns
returns c =
    rw c.at_group.ensures (runs_on _ c.straight_steps-ran.ensures)
