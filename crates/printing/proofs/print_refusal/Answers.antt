-- `printing::print_refusal` meets its contract: the number's field, and then the line feed.
-- Assumes nothing.
use Rattle.printing.specs.Printed.{turned_away}
use Rattle.printing.specs.Working.Writing.{output}
use Rattle.printing.proofs.Outputs.{then, write_all}
use Rattle.printing.proofs.print_refusal.Goals as goal

pub returns : goal.returns
unfolding turned_away
returns c =
    write_all (turned_away c.args.number) c.args.out.now (then (output c.args.out.now 0) _ _ c.put_field-p.ensures c.put_text.ensures)
