-- Document 02, No. 8: the call that writes a job.
use Rattle.std.specs.Prelude.{ℕ, List, [], ◌∷◌, ◌++◌, length, drop, Ok, Err}
use Rattle.riscu.specs.Lent.{LentList, LentMut}
use Rattle.calls.specs.Questions.{Question, ◌otherwise◌, code_fits, intervals_fit, in_order, limit_fits, memory_fits, first_fits, space_fits}
use Rattle.calls.specs.Call.{box_of}
use Rattle.calls.specs.Border.{refused_number}
use Rattle.calls.specs.Done.{Completion, DoneLeft, Deed, done_to, refusal_from}
use Rattle.calls.specs.declared.Refusal.TheVariants.{Code, Inputs, Order, Limit, Memory, First, Space}
use Rattle.jobs.specs.Job.{JobRead}
use Rattle.writing.specs.Form.{job_form, form_length}
use Rattle.writing.specs.declared.WriteOutcome.{WriteOutcome}

-- what a call lends: what is to be read back, and the space to write
pub record WriteCall : Type 0 where
  pub values : JobRead
  pub space : List ℕ

abbrev pub write_call_of : JobRead → List ℕ → WriteCall
write_call_of j space = record { values = j; space = space }

-- 1, 2, 3, 4, 6, 8 of the values, in the reader's order; a lent memory is exactly 512 words
unfoldable pub value_questions : JobRead → List Question
value_questions j =
    (code_fits (length j.code) otherwise Code)
    ∷ (intervals_fit (length j.intervals) otherwise Inputs)
    ∷ (in_order (box_of j.intervals) otherwise Order)
    ∷ (limit_fits j.limit otherwise Limit)
    ∷ (memory_fits (length j.memory) otherwise Memory)
    ∷ (first_fits j.first otherwise First)
    ∷ []

-- and then 14: the lent space is not shorter than the job
abbrev pub write_questions : WriteCall → List Question
write_questions c = value_questions c.values ++ ((space_fits (form_length c.values) (length c.space) otherwise Space) ∷ [])

-- the job at the start of the space; a longer space keeps its rest
abbrev pub write_deed : WriteCall → Deed
write_deed c =
    record {
      amount = form_length c.values;
      lent = c.space;
      after = job_form c.values ++ drop (form_length c.values) c.space;
    }

-- the first no decides; a refusal writes nothing
unfoldable pub job_written : WriteCall → DoneLeft
job_written c = done_to (write_questions c) (write_deed c)

-- the answer in numbers at the border: the refusal's or 0, and the bytes written

abbrev pub bytes_written : Completion → ℕ
bytes_written (Err r) = 0
bytes_written (Ok n) = n

abbrev pub write_outcome : Completion → WriteOutcome
write_outcome a = record { refused = refused_number (refusal_from a); bytes = bytes_written a }

-- the values that are lent, and what the call leaves, of the slices themselves

abbrev pub values_of : List ℕ → List ℕ → List ℕ → ℕ → ℕ → JobRead
values_of code memory intervals limit first =
    record { code = code; intervals = intervals; limit = limit; first = first; memory = memory }

abbrev pub values_lent : LentList → LentList → LentList → ℕ → ℕ → JobRead
values_lent code memory intervals limit first = values_of code.entry.now memory.entry.now intervals.entry.now limit first

abbrev pub job_written_on : JobRead → LentMut → DoneLeft
job_written_on j space = job_written (write_call_of j space.entry.now)
