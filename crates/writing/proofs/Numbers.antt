-- The numbers at the border say all of a call's answer.
-- Assumes nothing.
use mathlib.Core.Path.{refl}
use Rattle.calls.specs.Done.{Completion, refusal_from}
use Rattle.calls.proofs.Numbers.{says_refusal}
use Rattle.writing.specs.Write.{write_outcome}
use Rattle.writing.specs.Written.{WriteInNumbers}

pub write_numbers : (a : Completion) → WriteInNumbers (write_outcome a) a
write_numbers a = record { refusal = says_refusal (refusal_from a); bytes = refl }
