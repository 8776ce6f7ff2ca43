-- Demand 1: an exploration that finishes, or a numbered refusal, given only for its stated cause.
use Rattle.std.specs.Prelude.{◌≡◌, ◌↔◌, ℕ, true, false, List, [], ◌∷◌, ◌++◌, length, Err}
use Rattle.listing.specs.Group.{view_of}
use Rattle.listing.specs.Listing.{moves, enough}
use Rattle.calls.specs.Questions.{number, Question, No, AllYes}
use Rattle.calls.specs.Call.{Call, Left, questions, written, more, is_page, job_of}
use Rattle.calls.specs.Engine.{Engine}
use Rattle.calls.specs.declared.Refusal.{Refusal}

-- of some questions, the first with the answer no gives refusal r
pub record FirstNo (asked : List Question) (r : Refusal) : Type 0 where
  pub before : List Question
  pub question : Question
  pub after : List Question
  pub place : asked ≡ before ++ question ∷ after
  pub yes_before : AllYes before
  pub no_here : No question
  pub refusal : question.gives ≡ r

-- a number that a caller in C sees: 0 exactly if every question has the answer yes, and a refusal's exactly if the first no gives it
pub record TellsNo (asked : List Question) (n : ℕ) : Type 0 where
  pub accepted : (n ≡ 0) ↔ AllYes asked
  pub refused : (r : Refusal) → (n ≡ number r) ↔ FirstNo asked r

-- 0 paths and no further path, and nothing lent is changed
pub record Unchanged (memory table : List ℕ) (c : Call) (l : Left) : Type 0 where
  pub no_path : written l.reply.answer ≡ 0
  pub no_further : more l.reply.answer ≡ false
  pub report_kept : l.reply.report ≡ c.report
  pub table_kept : l.table ≡ table
  pub memory_kept : l.memory ≡ memory

pub record Refuses (memory table : List ℕ) (c : Call) (l : Left) : Type 0 where
  -- the first no decides: a call is refused exactly if the first no gives that refusal
  pub refused : (r : Refusal) → (l.reply.answer ≡ Err r) ↔ FirstNo (questions memory (length table) c) r
  -- and accepted exactly if every question has the answer yes
  pub accepted : (is_page l.reply.answer ≡ true) ↔ AllYes (questions memory (length table) c)
  -- a refusal reports zero paths and changes nothing lent
  pub unchanged : (r : Refusal) → l.reply.answer ≡ Err r → Unchanged memory table c l
  -- the exploration of an accepted call finishes: in the end no group waits
  pub finishes : is_page l.reply.answer ≡ true → let j = job_of memory (length table) c in (moves view_of j (enough j)).waiting ≡ []

-- Whoever calls an engine gets an answer, and each answer is an exploration that finishes or a numbered refusal.
pub record Responds (E : Engine) (memory table : List ℕ) (c : Call) : Type 0 where
  pub answered : (l : Left) × E memory table c l
  pub refuses : (l : Left) → E memory table c l → Refuses memory table c l
