-- The measure of the cycle of calls {put_digits} is the number: its tenth is smaller.
-- Assumes nothing.
use Rattle.printing.proofs.writer.+put_digits.Given as goal

abbrev pub decreases-put_digits : goal.decreases-put_digits
decreases-put_digits l = l.n
