use Rattle.explorer.proofs.Explored.{explored_straight, explored_ended}
use Rattle.explorer.proofs.Straight.{straight_limits}
use mathlib.Core.Path.{sym, ◌∙◌}
use native.Mathlib.Omega.{arith}
use Rattle.explorer.proofs.Task.group_turn.Goals as goal

pub step_on-requires : goal.step_on-requires
step_on-requires c =
    let e = c.requires.fact in
    let g = c.requires.phase_value in
    let n = straight_limits e.held g _ (sym c.decide.ensures ∙ c.in-Steps.is) in
    (omega (arith, n.0, e.paged.steps_fit), omega (arith, n.1, c.well_formed.1.1.1.0.0))

pub returns-in-Ended : goal.returns-in-Ended
returns-in-Ended c =
    let p = c.end_path.ensures in
    rw (p.value, p.report_value) (explored_ended c.requires.fact c.requires.phase_value (sym c.decide.ensures ∙ c.in-Ended.is))

pub returns-in-Steps : goal.returns-in-Steps
returns-in-Steps c =
    let s = c.step_on in
    explored_straight c.requires.fact c.requires.phase_value _ (sym c.decide.ensures ∙ c.in-Steps.is) _ s.result s.ensures.value s.ensures.after_value
