-- `printing::writer::put_field` meets its contract: the name, and then the digits.
-- Assumes nothing.
use Rattle.printing.specs.Printed.{field}
use Rattle.printing.specs.Working.Writing.{output}
use Rattle.printing.proofs.Outputs.{then}
use Rattle.printing.proofs.writer.put_field.Goals as goal

pub returns : goal.returns
unfolding field
returns c = then (output c.args.out.now c.args.at) _ _ c.put_text-p.ensures c.put_digits.ensures
