-- `printing::lines::put_line` meets its contract: its parts, one behind the other.
-- Assumes nothing.
use mathlib.Core.Path.{ap, ◌∙◌}
use Rattle.blocks.specs.Said.{said_at}
use Rattle.printing.specs.Working.Writing.{output, write}
use Rattle.printing.proofs.Outputs.{then}
use Rattle.printing.proofs.Parts.{line_is}
use Rattle.printing.proofs.lines.put_line.Goals as goal

pub returns : goal.returns
returns c =
    let a = c.args in
    then (output a.out.now a.at) _ _ c.put_field-p.ensures
    (then _ _ _ c.put_field-p-2.ensures
    (then _ _ _ c.put_field-p-3.ensures
    (then _ _ _ c.put_field-p-4.ensures
    (then _ _ _ c.put_inputs-p.ensures
    (then _ _ _ c.put_ending-p.ensures c.put_text.ensures)))))
    ∙ ap (write _) (line_is (said_at a.inputs a.report.now a.k) c.record_word.ensures c.record_word-2.ensures c.record_word-3.ensures c.record_word-4.ensures)
