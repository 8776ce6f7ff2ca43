-- A call that is done or refused: one that places rows, prints a sheet or writes a job. It writes one lent list, or refuses and writes
-- nothing.
use Rattle.std.specs.Prelude.{ℕ, ◌≡◌, ◌↔◌, List, Result, Ok, Err}
use Rattle.std.proofs.Math.Option.{Option, none, some}
use Rattle.listing.specs.First.{first}
use Rattle.calls.specs.Questions.{Question, AllYes}
use Rattle.calls.specs.Refuses.{FirstNo}
use Rattle.calls.specs.declared.Refusal.{Refusal}

-- what such a call answers: how much is done, or the refusal
abbrev pub Completion : Type 0
Completion = Result ℕ Refusal

-- its answer, and what it leaves in the list that it writes
pub record DoneLeft : Type 0 where
  pub answer : Completion
  pub list : List ℕ

abbrev pub done_left : Completion → List ℕ → DoneLeft
done_left answer list = record { answer = answer; list = list }

-- what the call is to do: how much that is, the list as it is lent, and as it is when all is done
pub record Deed : Type 0 where
  pub amount : ℕ
  pub lent : List ℕ
  pub after : List ℕ

unfoldable pub done_by : Deed → Option Refusal → DoneLeft
done_by d (some r) = done_left (Err r) d.lent
done_by d none = done_left (Ok d.amount) d.after

-- the first no decides
abbrev pub done_to : List Question → Deed → DoneLeft
done_to questions d = done_by d (first questions)

-- the refusal of an answer, if it is one
abbrev pub refusal_from : Completion → Option Refusal
refusal_from (Err r) = some r
refusal_from (Ok n) = none

-- What such a call promises.
pub record Completes (questions : List Question) (d : Deed) (l : DoneLeft) : Type 0 where
  -- the first no decides: a call is refused exactly if the first no gives that refusal
  pub refused : (r : Refusal) → (l.answer ≡ Err r) ↔ FirstNo questions r
  -- and done exactly if every question has the answer yes; it answers how much is done
  pub accepted : (l.answer ≡ Ok d.amount) ↔ AllYes questions
  pub amount : (n : ℕ) → l.answer ≡ Ok n → n ≡ d.amount
  -- a refusal writes nothing
  pub kept : (r : Refusal) → l.answer ≡ Err r → l.list ≡ d.lent
  pub written : (n : ℕ) → l.answer ≡ Ok n → l.list ≡ d.after
