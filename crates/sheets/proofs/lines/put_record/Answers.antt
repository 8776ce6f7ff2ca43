-- `sheets::lines::put_record` meets its contract: the path's line, and then those of its inputs.
-- Assumes nothing.
use mathlib.Core.Path.{ap, ◌∙◌}
use Rattle.blocks.specs.Said.{said_at}
use Rattle.printing.specs.Working.Writing.{output, write}
use Rattle.printing.proofs.Outputs.{then}
use Rattle.sheets.proofs.Told.{path_is}
use Rattle.sheets.proofs.lines.put_record.Goals as goal

pub returns : goal.returns
returns c =
    let a = c.args in
    let s = output a.out.now a.at in
    then s _ _ c.put_sheet_line-p.ensures c.put_inputs.ensures
    ∙ ap (write s) (path_is (said_at a.inputs a.report.now a.k) c.record_word-number.ensures c.record_word-kind.ensures c.record_word-reason.ensures)
