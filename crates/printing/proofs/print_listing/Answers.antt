-- `printing::print_listing` meets its contract: the first line, and then the records' lines.
-- Assumes nothing.
use mathlib.Core.Path.{ap, ◌∙◌}
use Rattle.calls.proofs.Numbers.{yes_from}
use Rattle.printing.specs.Printed.{listing_text}
use Rattle.printing.specs.Working.Writing.{output, write}
use Rattle.printing.proofs.Outputs.{then, write_all}
use Rattle.printing.proofs.Parts.{listing_is}
use Rattle.printing.proofs.print_listing.Goals as goal

pub returns : goal.returns
returns c =
    let a = c.args in
    write_all (listing_text a.inputs a.count a.more a.report.now) a.out.now
    (then (output a.out.now 0) _ _
    (then _ _ _ c.put_field-p.ensures
    (then _ _ _ c.put_field-p-2.ensures c.put_text-p.ensures))
    c.put_lines.ensures
    ∙ ap (write _) (listing_is a.inputs a.count a.more a.report.now (yes_from a.more c.from.ensures)))
