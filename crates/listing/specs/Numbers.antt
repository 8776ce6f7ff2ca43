-- Document 01's numbers for how a path ends. Kind 2, division by 0, no longer occurs (document 02, No. 3), and neither do the reasons 2
-- and 3, of multipliers and divisors that are no power of two (No. 5): their numbers stay unused.
use Rattle.std.specs.Prelude.{ℕ}
use Rattle.listing.specs.declared.Reason.{Reason}
use Rattle.listing.specs.declared.Reason.TheVariants.{BothOpen, DivisorOpen, Quotients, BaseOpen, CallOpen}
use Rattle.listing.specs.declared.End.{End}
use Rattle.listing.specs.declared.End.TheVariants.{Exit, BadPc, BadWord, BadAddress, BadCall, StepLimit, NotFollowed, TraceFull}

abbrev pub reason_number : Reason → ℕ
reason_number BothOpen = 1
reason_number DivisorOpen = 4
reason_number Quotients = 5
reason_number BaseOpen = 6
reason_number CallOpen = 7

abbrev pub kind_number : End → ℕ
kind_number Exit = 1
kind_number BadPc = 3
kind_number BadWord = 4
kind_number BadAddress = 5
kind_number BadCall = 6
kind_number StepLimit = 7
kind_number (NotFollowed r) = 8
kind_number TraceFull = 9

-- the reason's word: 0 unless kind 8
abbrev pub reason_word : End → ℕ
reason_word (NotFollowed r) = reason_number r
reason_word Exit = 0
reason_word BadPc = 0
reason_word BadWord = 0
reason_word BadAddress = 0
reason_word BadCall = 0
reason_word StepLimit = 0
reason_word TraceFull = 0
