-- `printing::writer::put_byte` meets its contract.
-- Assumes nothing.
use native.Mathlib.Omega.{arith}
use Rattle.printing.proofs.Outputs.{push_fits, push_full}
use Rattle.printing.proofs.writer.put_byte.Goals as goal

pub returns-then-at-out : goal.returns-then-at-out
returns-then-at-out c = let a = c.args in push_fits a.out.now a.at a.b (omega arith)

pub returns : goal.returns
returns c = let a = c.args in push_full a.out.now a.at a.b (omega arith)
