-- `sheets::lines::put_inputs`: input by input.
use mathlib.Core.Path.{◌≡◌}
use mathlib.Core.List.{flat_map}
use Prim.Native.Nat.{◌-◌}
use Rattle.boxes.specs.Boxes.{from}
use Rattle.blocks.specs.Report.{record_at}
use Rattle.blocks.specs.Said.{input_in, said_at}
use Rattle.printing.specs.Working.Writing.{output, write}
use Rattle.sheets.specs.Sheet.{input_lines}
use Rattle.sheets.proofs.Told.{line_of_input}
use Rattle.sheets.proofs.lines.put_inputs.Given as goal

abbrev pub invariant-loop-i : goal.invariant-loop-i
invariant-loop-i l =
    write (output l.out l.p) (flat_map (line_of_input (input_in l.inputs (record_at l.inputs l.report l.k))) (from l.i (l.inputs - l.i))) ≡ write (output l.initial.out l.initial.p) (input_lines 0 (said_at l.inputs l.report l.k).box)
