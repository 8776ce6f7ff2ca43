use mathlib.Core.Path.{◌≡◌}
use mathlib.Core.List.{List, flat_map}
use Prim.Native.Nat.{ℕ, ◌-◌}
use Rattle.boxes.specs.Boxes.{from}
use Rattle.blocks.specs.Said.{said_at, first_said}
use Rattle.printing.specs.Printed.{line}
use Rattle.printing.specs.Working.Writing.{output, write}
use Rattle.printing.proofs.lines.put_lines.Given as goal

-- the line of record k of a report of n inputs
abbrev pub line_at : ℕ → List ℕ → ℕ → List ℕ
line_at n report k = line (said_at n report k)

abbrev pub invariant-loop-k : goal.invariant-loop-k
invariant-loop-k l =
    write (output l.out l.p) (flat_map (line_at l.inputs l.report) (from l.k (l.count - l.k))) ≡ write (output l.initial.out l.initial.p) (flat_map line (first_said l.inputs l.count l.report))
