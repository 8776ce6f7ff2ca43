-- No end has kind 2 (document 02, No. 3), and none has reason 2 or 3 (No. 5).
-- Assumes nothing.
use mathlib.Core.Path.{◌≡◌}
use native.Mathlib.Omega.{arith}
use Rattle.listing.specs.Numbers.{kind_number, reason_number, reason_word}
use Rattle.listing.specs.declared.Reason.{Reason}
use Rattle.listing.specs.declared.Reason.TheVariants.{BothOpen, DivisorOpen, Quotients, BaseOpen, CallOpen}
use Rattle.listing.specs.declared.End.{End}
use Rattle.listing.specs.declared.End.TheVariants.{Exit, BadPc, BadWord, BadAddress, BadCall, StepLimit, NotFollowed, TraceFull}

pub no_kind_2 : (e : End) → ¬ (kind_number e ≡ 2)
no_kind_2 Exit = omega arith
no_kind_2 BadPc = omega arith
no_kind_2 BadWord = omega arith
no_kind_2 BadAddress = omega arith
no_kind_2 BadCall = omega arith
no_kind_2 StepLimit = omega arith
no_kind_2 (NotFollowed r) = omega arith
no_kind_2 TraceFull = omega arith

used_reason : (r : Reason) → ¬ (reason_number r ≡ 2) × ¬ (reason_number r ≡ 3)
used_reason BothOpen = (omega arith, omega arith)
used_reason DivisorOpen = (omega arith, omega arith)
used_reason Quotients = (omega arith, omega arith)
used_reason BaseOpen = (omega arith, omega arith)
used_reason CallOpen = (omega arith, omega arith)

pub no_reason_2_or_3 : (e : End) → ¬ (reason_word e ≡ 2) × ¬ (reason_word e ≡ 3)
no_reason_2_or_3 Exit = (omega arith, omega arith)
no_reason_2_or_3 BadPc = (omega arith, omega arith)
no_reason_2_or_3 BadWord = (omega arith, omega arith)
no_reason_2_or_3 BadAddress = (omega arith, omega arith)
no_reason_2_or_3 BadCall = (omega arith, omega arith)
no_reason_2_or_3 StepLimit = (omega arith, omega arith)
no_reason_2_or_3 (NotFollowed r) = used_reason r
no_reason_2_or_3 TraceFull = (omega arith, omega arith)
