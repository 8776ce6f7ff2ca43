-- What the questions on a job leave.
-- Assumes nothing.
use mathlib.Core.Path.{◌≡◌}
use mathlib.Core.Bool.{Bool, true, ◌&&◌, and-eq-true_iff}
use mathlib.Core.List.{List}
use mathlib.Core.Option.{none}
use Prim.Native.Nat.{ℕ, ◌%◌, ◌≤◌}
use borrow.Author.Tests.{leb-true, eqb-true}
use lib.Dec.{leb, eqb}
use lib.ListN.{length}
use Rattle.riscu.specs.Limits.{code_words}
use Rattle.blocks.specs.Block.{block_bytes, checks_agree}
use Rattle.calls.specs.Call.{box_of}
use Rattle.calls.specs.Questions.{code_fits, inputs_fit, in_order, limit_fits, first_fits}
use Rattle.calls.proofs.Asked.{passed}
use Rattle.jobs.specs.Job.{code_count, input_count, step_limit, first_path, given_count, intervals_in, whole_blocks, given_fits, well_formed, header_questions, job_questions, job_refusal_of}
use Rattle.jobs.specs.Working.Reading.{Whole, Sized}

pub both : (a b : Bool) → a && b ≡ true → (a ≡ true) × (b ≡ true)
both a b = (and-eq-true_iff a b).0

-- what the questions on the counts leave
pub whole_left : (bytes : List ℕ) → whole_blocks bytes ≡ true → Whole bytes
unfolding whole_blocks
whole_left bytes e = eqb-true _ _ (both (eqb (length bytes % block_bytes) 0) _ e).0

pub code_left : (n : ℕ) → code_fits n ≡ true → n ≤ code_words
code_left n e = leb-true _ _ (both (leb 1 n) _ e).1

pub record Passed (bytes : List ℕ) : Type 0 where
  pub whole : whole_blocks bytes ≡ true
  pub checks : checks_agree bytes ≡ true
  pub code : code_fits (code_count bytes) ≡ true
  pub inputs : inputs_fit (input_count bytes) ≡ true
  pub order : in_order (box_of (intervals_in bytes)) ≡ true
  pub limit : limit_fits (step_limit bytes) ≡ true
  pub memory : given_fits (given_count bytes) ≡ true
  pub first : first_fits (first_path bytes) ≡ true
  pub form : well_formed bytes ≡ true

pub yes_passed : (bytes : List ℕ) → job_refusal_of bytes ≡ none → Passed bytes
unfolding job_questions header_questions
yes_passed bytes e =
    let (q1, e1) = passed _ _ _ e in
    let (q2, e2) = passed _ _ _ e1 in
    let (q3, e3) = passed _ _ _ e2 in
    let (q4, e4) = passed _ _ _ e3 in
    let (q5, e5) = passed _ _ _ e4 in
    let (q6, e6) = passed _ _ _ e5 in
    let (q7, e7) = passed _ _ _ e6 in
    let (q8, e8) = passed _ _ _ e7 in
    let (q9, _) = passed _ _ _ e8 in
    record { whole = q1; checks = q2; code = q3; inputs = q4; order = q5; limit = q6; memory = q7; first = q8; form = q9 }

pub yes_sized : (bytes : List ℕ) → job_refusal_of bytes ≡ none → Sized bytes
yes_sized bytes e =
    let p = yes_passed bytes e in
    record {
      whole = whole_left bytes p.whole;
      code = code_left (code_count bytes) p.code;
      inputs = leb-true _ _ p.inputs;
      given = leb-true _ _ p.memory;
    }
