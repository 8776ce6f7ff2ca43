use mathlib.Core.Path.{◌≡◌}
use lib.ListN.{drop}
use Rattle.riscu.specs.Working.Table.{table, find_row}
use Rattle.riscu.proofs.decoder.row_of.Given as goal

abbrev pub invariant-loop-f : goal.invariant-loop-f
invariant-loop-f l = find_row table l.w ≡ find_row (drop l.f-index table) l.w
