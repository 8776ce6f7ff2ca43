-- `reports::placing::place_rows`: row by row.
use Rattle.boxes.proofs.Filled.{Filled}
use Rattle.reports.specs.Placing.{rows_in}
use Rattle.reports.proofs.Records.{placing_at}
use Rattle.reports.proofs.placing.place_rows.Given as goal

abbrev pub invariant-loop-j : goal.invariant-loop-j
invariant-loop-j l = Filled (placing_at l.inputs l.report l.rows) (rows_in l.inputs l.rows) l.answers l.j
