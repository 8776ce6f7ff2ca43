-- `sheets::lines::put_sheet` meets its contract: record by record.
-- Assumes nothing.
use mathlib.Core.Path.{sym, ap, ◌∙◌}
use native.Mathlib.Nat.{sub-zero}
use native.Mathlib.Omega.{arith}
use Rattle.boxes.specs.Boxes.{from}
use Rattle.printing.specs.Working.Writing.{output, write}
use Rattle.printing.proofs.Outputs.{flat_map_lem, part_turn, part_done, write_all}
use Rattle.blocks.specs.Report.{records_in}
use Rattle.blocks.specs.Said.{said_at}
use Rattle.sheets.specs.Sheet.{path_lines, sheet_text}
use Rattle.sheets.proofs.Told.{lines_at}
use Rattle.sheets.proofs.lines.put_sheet.Goals as goal

pub loop-k-init : goal.loop-k-init
loop-k-init c =
    let a = c.args in
    let n = records_in a.inputs a.report.now in
    rw (sub-zero, c.records_in-k-end.ensures) (ap (write _) (sym (flat_map_lem path_lines (said_at a.inputs a.report.now) (from 0 n))))

pub loop-k-preserved : goal.loop-k-preserved
loop-k-preserved c =
    let put = c.put_record-p in
    let l = c.loop-k in
    let a = c.args in
    part_turn (lines_at a.inputs a.report.now) (output l.out l.p) c.records_in-k-end.result l.k (omega arith) put.ensures ∙ l.invariant

pub returns : goal.returns
returns c =
    let l = c.loop-k in
    let a = c.args in
    let done = part_done (lines_at a.inputs a.report.now) (output l.out l.p) c.records_in-k-end.result l.k (omega arith) in
    write_all (sheet_text a.inputs a.report.now) a.out.now (done ∙ l.invariant)
