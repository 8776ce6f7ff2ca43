-- `sheets::lines::put_sheet_line` meets its contract: the line is set in an array, and then written.
-- Assumes nothing.
use mathlib.Core.Path.{◌∙◌, ap}
use Rattle.printing.specs.Working.Writing.{output, write}
use Rattle.sheets.proofs.Columns.{line_set}
use Rattle.sheets.proofs.lines.put_sheet_line.Goals as goal

pub returns : goal.returns
returns c =
    let a = c.args in
    c.put_text.ensures
    ∙ ap (write (output a.out.now a.at)) (line_set a.a a.b a.c c.set_field.ensures c.set_field-2.ensures c.set_field-3.ensures)
