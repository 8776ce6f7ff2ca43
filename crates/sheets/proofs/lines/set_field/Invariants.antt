-- `sheets::lines::set_field`: digit by digit, from the last one back.
use mathlib.Core.Path.{◌≡◌}
use Prim.Native.Nat.{◌+◌, ◌-◌, ◌^◌, ◌<◌, ◌≤◌}
use lib.ListN.{length}
use Rattle.blocks.specs.Working.Writing.{put}
use Rattle.printing.specs.Printed.{digits}
use Rattle.sheets.specs.Line.{field_columns}
use Rattle.sheets.proofs.lines.set_field.Given as goal

abbrev pub invariant-loop-rest : goal.invariant-loop-rest
invariant-loop-rest l =
    (length l.text ≡ length l.initial.text)
    × (l.rest < 2 ^ 64)
    × (length (digits l.rest) ≤ l.k)
    × (l.k ≤ length l.initial.text)
    × (put l.text (l.k - length (digits l.rest)) (digits l.rest) ≡ put l.initial.text (l.column - 1 + field_columns - length (digits l.n)) (digits l.n))

abbrev pub decreases-loop-rest : goal.decreases-loop-rest
decreases-loop-rest l = l.rest
