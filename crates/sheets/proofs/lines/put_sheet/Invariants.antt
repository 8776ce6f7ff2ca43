-- `sheets::lines::put_sheet`: record by record.
use mathlib.Core.Path.{◌≡◌}
use mathlib.Core.List.{flat_map}
use Prim.Native.Nat.{◌-◌}
use Rattle.boxes.specs.Boxes.{from}
use Rattle.printing.specs.Working.Writing.{output, write}
use Rattle.sheets.specs.Sheet.{sheet_text}
use Rattle.sheets.proofs.Told.{lines_at}
use Rattle.sheets.proofs.lines.put_sheet.Given as goal

abbrev pub invariant-loop-k : goal.invariant-loop-k
invariant-loop-k l =
    write (output l.out l.p) (flat_map (lines_at l.inputs l.report) (from l.k (l.k-end - l.k))) ≡ write (output l.initial.out l.initial.p) (sheet_text l.inputs l.report)
