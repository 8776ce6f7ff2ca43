-- `printing::lines::put_lines` meets its contract: the rest of the lines, written onto the bytes at hand, gives the result.
-- Assumes nothing.
use mathlib.Core.Path.{sym, ap, ◌∙◌}
use native.Mathlib.Nat.{sub-zero}
use native.Mathlib.Omega.{arith}
use Rattle.boxes.specs.Boxes.{from}
use Rattle.blocks.specs.Said.{said_at}
use Rattle.printing.specs.Printed.{line}
use Rattle.printing.specs.Working.Writing.{output, write}
use Rattle.printing.proofs.Outputs.{flat_map_lem, part_turn, part_done}
use Rattle.printing.proofs.lines.put_lines.Invariants.{line_at}
use Rattle.printing.proofs.lines.put_lines.Goals as goal

pub loop-k-init : goal.loop-k-init
loop-k-init c =
    let a = c.args in
    rw sub-zero (ap (write _) (sym (flat_map_lem line (said_at a.inputs a.report.now) (from 0 a.count))))

pub loop-k-preserved : goal.loop-k-preserved
loop-k-preserved c =
    let l = c.loop-k in
    let a = c.args in
    let put = c.put_line-p in
    part_turn (line_at a.inputs a.report.now) (output l.out l.p) a.count l.k (omega arith) put.ensures ∙ l.invariant

pub returns : goal.returns
returns c =
    let l = c.loop-k in
    let a = c.args in
    part_done (line_at a.inputs a.report.now) (output l.out l.p) a.count l.k (omega arith) ∙ l.invariant
