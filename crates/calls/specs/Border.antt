-- The answer's numbers at the border, and what is lent, as contracts name it.
use Rattle.std.specs.Prelude.{ℕ, ◌≡◌, ◌↔◌, Bool, true, false, Ok, Err}
use Rattle.std.proofs.Math.Option.{Option, none, some}
use Rattle.riscu.specs.Lent.{LentList, LentMut}
use Rattle.calls.specs.Questions.{number}
use Rattle.calls.specs.Call.{Call, call_of, Answer, written, more, Left, called}
use Rattle.calls.specs.declared.Refusal.{Refusal}
use Rattle.calls.specs.declared.Outcome.{Outcome}

-- the refusal of an answer, if it is one
abbrev pub refusal_by : Answer → Option Refusal
refusal_by (Err r) = some r
refusal_by (Ok p) = none

-- its number: the refusal's, or 0
abbrev pub refused_number : Option Refusal → ℕ
refused_number (some r) = number r
refused_number none = 0

-- the number says whether there is a refusal, and which
pub record SaysRefusal (n : ℕ) (o : Option Refusal) : Type 0 where
  pub accepted : (n ≡ 0) ↔ (o ≡ none)
  pub refused : (r : Refusal) → (n ≡ number r) ↔ (o ≡ some r)

-- 1 for yes, 0 for no
abbrev pub yes_number : Bool → ℕ
yes_number true = 1
yes_number false = 0

abbrev pub reply_of : Answer → Outcome
reply_of a = record { refused = refused_number (refusal_by a); count = written a; more = yes_number (more a) }

-- the numbers say all of the answer: whether the call was refused and why, the count, and whether a path follows
pub record InNumbers (o : Outcome) (a : Answer) : Type 0 where
  pub refusal : SaysRefusal o.refused (refusal_by a)
  pub count : o.count ≡ written a
  pub further : o.more ≡ yes_number (more a)

-- the call of what is lent, and what it leaves

abbrev pub call_lent : LentList → LentList → ℕ → LentMut → ℕ → Call
call_lent code intervals limit report first = call_of code.entry.now intervals.entry.now limit report.entry.now first

abbrev pub called_on : LentList → LentMut → Call → Left
called_on memory table c = called memory.entry.now table.entry.now c
