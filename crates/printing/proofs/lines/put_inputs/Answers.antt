-- `printing::lines::put_inputs` meets its contract: the rest of the inputs, written onto the bytes at hand, gives the result.
-- Assumes nothing.
use mathlib.Core.Path.{sym, ap, ◌∙◌}
use native.Mathlib.Nat.{sub-zero}
use native.Mathlib.Omega.{arith}
use Rattle.boxes.specs.Boxes.{from}
use Rattle.blocks.specs.Report.{record_at}
use Rattle.blocks.specs.Said.{input_in}
use Rattle.printing.specs.Printed.{input_text}
use Rattle.printing.specs.Working.Writing.{output, write}
use Rattle.printing.proofs.Outputs.{flat_map_lem, part_turn, part_done}
use Rattle.printing.proofs.Parts.{input_is}
use Rattle.printing.proofs.lines.put_inputs.Invariants.{input_at}
use Rattle.printing.proofs.lines.put_inputs.Goals as goal

pub loop-i-init : goal.loop-i-init
loop-i-init c =
    let a = c.args in
    rw sub-zero (ap (write _) (sym (flat_map_lem input_text (input_in a.inputs (record_at a.inputs a.report.now a.k)) (from 0 a.inputs))))

pub loop-i-preserved : goal.loop-i-preserved
loop-i-preserved c =
    let l = c.loop-i in
    let a = c.args in
    let put = c.put_range-p in
    let bytes = record_at a.inputs a.report.now a.k in
    let text = input_is (input_in a.inputs bytes l.i) c.input_low-low.ensures c.input_high-high.ensures in
    part_turn (input_at a.inputs bytes) (output l.out l.p) a.inputs l.i (omega arith) (put.ensures ∙ ap (write _) text) ∙ l.invariant

pub returns : goal.returns
returns c =
    let l = c.loop-i in
    let a = c.args in
    part_done (input_at a.inputs (record_at a.inputs a.report.now a.k)) (output l.out l.p) a.inputs l.i (omega arith) ∙ l.invariant
