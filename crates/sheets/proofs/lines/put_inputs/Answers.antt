-- `sheets::lines::put_inputs` meets its contract: input by input.
-- Assumes nothing.
use mathlib.Core.Path.{sym, ap, ◌∙◌}
use native.Mathlib.Nat.{sub-zero}
use native.Mathlib.Omega.{arith}
use Rattle.blocks.specs.Report.{record_at}
use Rattle.blocks.specs.Said.{input_in}
use Rattle.printing.specs.Working.Writing.{output, write}
use Rattle.printing.proofs.Outputs.{part_turn, part_done}
use Rattle.sheets.proofs.Told.{line_of_input, input_lines_lem, input_is}
use Rattle.sheets.proofs.lines.put_inputs.Goals as goal

pub loop-i-init : goal.loop-i-init
loop-i-init c =
    let a = c.args in
    rw sub-zero (ap (write _) (sym (input_lines_lem (input_in a.inputs (record_at a.inputs a.report.now a.k)) 0 a.inputs)))

pub loop-i-preserved : goal.loop-i-preserved
loop-i-preserved c =
    let put = c.put_sheet_line-p in
    let l = c.loop-i in
    let a = c.args in
    let f = input_in a.inputs (record_at a.inputs a.report.now a.k) in
    let text = input_is l.i (f l.i) c.input_low-low.ensures c.input_high-high.ensures in
    part_turn (line_of_input f) (output l.out l.p) a.inputs l.i (omega arith) (put.ensures ∙ ap (write _) text) ∙ l.invariant

pub returns : goal.returns
returns c =
    let l = c.loop-i in
    let a = c.args in
    part_done (line_of_input (input_in a.inputs (record_at a.inputs a.report.now a.k))) (output l.out l.p) a.inputs l.i (omega arith) ∙ l.invariant
