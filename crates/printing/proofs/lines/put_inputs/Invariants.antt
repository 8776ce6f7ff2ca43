use mathlib.Core.Path.{◌≡◌}
use mathlib.Core.List.{List, flat_map}
use Prim.Native.Nat.{ℕ, ◌-◌}
use Rattle.boxes.specs.Boxes.{from}
use Rattle.blocks.specs.Report.{record_at}
use Rattle.blocks.specs.Said.{input_in, said_at}
use Rattle.printing.specs.Printed.{input_text}
use Rattle.printing.specs.Working.Writing.{output, write}
use Rattle.printing.proofs.lines.put_inputs.Given as goal

-- the text of input i of a record
abbrev pub input_at : ℕ → List ℕ → ℕ → List ℕ
input_at n bytes i = input_text (input_in n bytes i)

abbrev pub invariant-loop-i : goal.invariant-loop-i
invariant-loop-i l =
    write (output l.out l.p) (flat_map (input_at l.inputs (record_at l.inputs l.report l.k)) (from l.i (l.inputs - l.i))) ≡ write (output l.initial.out l.initial.p) (flat_map input_text (said_at l.inputs l.report l.k).box)
