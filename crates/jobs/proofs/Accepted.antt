-- What an accepted job gives to a call: of the questions only 5 and 7, on the table and the report, are left to ask.
-- Assumes nothing.
use mathlib.Core.Path.{◌≡◌, sym, ◌∙◌}
use mathlib.Core.Bool.{Bool, true}
use mathlib.Core.List.{List, [], ◌∷◌}
use mathlib.Core.Option.{none}
use Prim.Native.Nat.{ℕ, ◌*◌, ◌/◌, ◌%◌, ◌≤◌}
use native.Mathlib.Omega.{arith}
use borrow.Author.Tests.{le-leb, eq-eqb}
use lib.ListN.{length, take, length-append, length-replicate, length-take}
use lib.Seq.{take_at}
use Rattle.riscu.specs.Limits.{memory_words}
use Rattle.listing.specs.First.{first}
use Rattle.blocks.specs.Record.{record_bytes}
use Rattle.calls.specs.Limits.{entry_words}
use Rattle.calls.specs.Questions.{Question, ◌otherwise◌, code_fits, intervals_fit, in_order, limit_fits, memory_fits, report_fits, first_fits}
use Rattle.calls.specs.Call.{box_of, inputs_of, questions, refusal_of}
use Rattle.calls.specs.declared.Refusal.{Refusal}
use Rattle.calls.specs.declared.Refusal.TheVariants.{Report}
use Rattle.calls.proofs.Asked.{yes_on}
use Rattle.jobs.specs.Job.{code_count, input_count, step_limit, first_path, given_count, code_at, memory_at, interval_at, code_in, intervals_in, memory_in, job_read, call_in, job_refusal_of}
use Rattle.jobs.specs.Working.Reading.{over}
use Rattle.jobs.proofs.Copied.{copied}
use Rattle.jobs.proofs.Asked.{yes_passed, yes_sized}

-- how much is read

pub code_length : (bytes : List ℕ) → length (code_in bytes) ≡ code_count bytes
unfolding code_in
code_length bytes = copied (code_at bytes) (code_count bytes)

pub intervals_length : (bytes : List ℕ) → length (intervals_in bytes) ≡ 2 * input_count bytes
unfolding intervals_in
intervals_length bytes = copied (interval_at bytes) (2 * input_count bytes)

pub memory_length : (bytes : List ℕ) → given_count bytes ≤ memory_words → length (memory_in bytes) ≡ memory_words
unfolding memory_in
memory_length bytes h = rw (length-append, length-replicate, copied (memory_at bytes) (given_count bytes)) (omega arith)

-- a part from the front has the length asked for
pub front_length : (n : ℕ) (l : List ℕ) → n ≤ length l → n ≡ length (take n l)
front_length n l h = sym (rw length-take (omega arith))

-- what is read is taken from the front of what was lent
pub over_taken : (new old : List ℕ) {n : ℕ} → length new ≡ n → take n (over new old) ≡ new
over_taken new old {n} e = take_at new _ n e

last_yes : (q : Question) (r : Refusal) {u : Bool} → u ≡ true → first (q ∷ []) ≡ first (q ∷ (u otherwise r) ∷ [])
unfolding first
last_yes q r e = rw e

-- of the questions of a call, the job has answered all but 5 and 7
module _ (bytes report : List ℕ) (words : ℕ) (e : job_refusal_of bytes ≡ none) where
  code_asked : code_fits (length (code_in bytes)) ≡ true
  code_asked = rw (code_length bytes) (yes_passed bytes e).code

  intervals_asked : intervals_fit (length (intervals_in bytes)) ≡ true
  intervals_asked =
      let even : 2 * input_count bytes % 2 ≡ 0 = omega arith in
      let half : 2 * input_count bytes / 2 ≡ input_count bytes = omega arith in
      rw (intervals_length bytes, eq-eqb (2 * input_count bytes % 2) 0 even, half) (yes_passed bytes e).inputs

  memory_asked : memory_fits (length (memory_in bytes)) ≡ true
  memory_asked = eq-eqb (length (memory_in bytes)) memory_words (memory_length bytes (yes_sized bytes e).given)

  -- what is read passes the questions on values, as the writer and a call ask them
  pub record ValuesAsked : Type 0 where
    pub code : code_fits (length (code_in bytes)) ≡ true
    pub intervals : intervals_fit (length (intervals_in bytes)) ≡ true
    pub order : in_order (box_of (intervals_in bytes)) ≡ true
    pub limit : limit_fits (step_limit bytes) ≡ true
    pub memory : memory_fits (length (memory_in bytes)) ≡ true
    pub first : first_fits (first_path bytes) ≡ true

  pub values_asked : ValuesAsked
  values_asked =
      let p = yes_passed bytes e in
      record {
        code = code_asked;
        intervals = intervals_asked;
        order = p.order;
        limit = p.limit;
        memory = memory_asked;
        first = p.first;
      }

  -- the question that is left: 7
  abbrev pub report_asked : Question
  report_asked = report_fits (record_bytes (inputs_of (call_in bytes report))) (length report) otherwise Report

  pub accepted_refusal : entry_words ≤ words → refusal_of (job_read bytes).memory words (call_in bytes report) ≡ first (report_asked ∷ [])
  unfolding questions job_read
  accepted_refusal table =
      let v = values_asked in
      sym
      (last_yes _ _ v.first
      ∙ yes_on _ _ v.memory
      ∙ yes_on _ _ (le-leb entry_words words table)
      ∙ yes_on _ _ v.limit
      ∙ yes_on _ _ v.order
      ∙ yes_on _ _ v.intervals
      ∙ yes_on _ _ v.code)
