-- What the questions come to, as the contracts of the code that asks them name it.
use Rattle.std.proofs.Math.Option.{Option, none, some}
use Rattle.std.specs.Prelude.{Result, Ok, Err, length}
use Rattle.riscu.specs.Lent.{LentList}
use Rattle.calls.specs.Call.{Call, refusal_of}
use Rattle.calls.specs.declared.Refusal.{Refusal}

-- no question is answered no, or the first that is
abbrev pub refusal_in : Result (Unit {0}) Refusal → Option Refusal
refusal_in (Ok u) = none
refusal_in (Err r) = some r

abbrev pub refusal_on : LentList → LentList → Call → Option Refusal
refusal_on memory table c = refusal_of memory.entry.now (length table.entry.now) c
