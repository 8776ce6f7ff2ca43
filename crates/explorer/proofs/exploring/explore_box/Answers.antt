use Rattle.explorer.proofs.Finished.{begins_explored, explored_finished}
use Rattle.explorer.proofs.exploring.explore_box.Goals as goal

pub run_turns-requires : goal.run_turns-requires
run_turns-requires c =
    let r = c.replay-at in
    begins_explored c.requires _ r.result r.ensures

pub returns : goal.returns
returns c =
    let t = c.run_turns in
    let e = t.ensures in
    explored_finished e.fact e.phase_value _ _ _ t.auto.report c.requires.end e.report_value
