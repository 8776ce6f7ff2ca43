-- `reports::placing::place_row`: the first record that holds the row.
use mathlib.Core.Path.{◌≡◌}
use mathlib.Core.List.{map}
use Prim.Native.Nat.{◌-◌}
use Rattle.boxes.specs.Boxes.{from}
use Rattle.blocks.specs.Said.{said_at}
use Rattle.reports.specs.Readable.{all_said}
use Rattle.reports.specs.Placing.{row_at, placing}
use Rattle.reports.proofs.placing.place_row.Given as goal

abbrev pub invariant-loop-k : goal.invariant-loop-k
invariant-loop-k l =
    placing (all_said l.inputs l.report) (row_at l.inputs l.rows l.j) ≡ placing (map (said_at l.inputs l.report) (from l.k (l.n - l.k))) (row_at l.inputs l.rows l.j)
