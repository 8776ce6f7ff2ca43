-- `printing::writer::put_range` meets its contract: the name and the low, and then the high.
-- Assumes nothing.
use Rattle.printing.specs.Printed.{range}
use Rattle.printing.specs.Working.Writing.{output}
use Rattle.printing.proofs.Outputs.{then}
use Rattle.printing.proofs.writer.put_range.Goals as goal

pub returns : goal.returns
unfolding range
returns c = then (output c.args.out.now c.args.at) _ _ c.put_field-p.ensures c.put_field.ensures
