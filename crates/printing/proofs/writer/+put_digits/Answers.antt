-- `printing::writer::put_digits` meets its contract: the digits of the tenth, and then the last one.
-- Assumes nothing.
use native.Mathlib.Omega.{arith}
use Rattle.printing.specs.Working.Writing.{output}
use Rattle.printing.proofs.Digits.{last_digit, only_digit}
use Rattle.printing.proofs.writer.+put_digits.Goals as goal

pub returns-then-n-lt10 : goal.returns-then-n-lt10
returns-then-n-lt10 t c = only_digit (output c.args.out.now c.args.at) c.args.n (omega arith) c.put_byte.ensures

pub returns : goal.returns
returns t c = last_digit (output c.args.out.now c.args.at) c.args.n (omega arith) (omega arith) c.put_digits-p.ensures c.put_byte-2.ensures
