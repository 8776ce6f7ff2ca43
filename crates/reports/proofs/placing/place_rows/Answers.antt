-- `reports::placing::place_rows` meets its contract: row by row.
-- Assumes nothing.
use mathlib.Core.Path.{sym, ◌∙◌}
use native.Mathlib.Omega.{arith}
use Rattle.boxes.proofs.Filled.{all_filled}
use Rattle.reports.proofs.Records.{placings_are}
use Rattle.reports.proofs.placing.place_rows.Goals as goal

pub returns : goal.returns
returns c =
    let l = c.loop-j in
    let a = c.args in
    all_filled _ _ l.invariant (omega (arith, l.invariant.count)) ∙ sym (placings_are a.inputs a.report.now a.rows.now)
