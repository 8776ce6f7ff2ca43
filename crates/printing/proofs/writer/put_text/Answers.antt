-- `printing::writer::put_text` meets its contract: what fits of the text stands there, and nothing behind the end.
-- Assumes nothing.
use native.Mathlib.Omega.{arith}
use Rattle.printing.proofs.Outputs.{write_full, write_copied}
use Rattle.printing.proofs.writer.put_text.Goals as goal

pub returns-then-out-at : goal.returns-then-out-at
returns-then-out-at c = let a = c.args in write_full a.out.now a.at a.text.now (omega arith)

pub returns : goal.returns
returns c = let a = c.args in write_copied a.out.now a.text.now a.at c.min-n.result (omega arith) c.min-n.ensures c.copy_from_slice.ensures.after
