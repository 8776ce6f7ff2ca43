-- What the code's contracts use beside the definitions: what the reader leaves.
use Rattle.std.specs.Prelude.{ℕ, ◌≤◌, ◌%◌, ◌≡◌, List, ◌++◌, length, drop, Result, Ok, Err}
use Rattle.std.proofs.Math.Option.{Option, none, some}
use Rattle.riscu.specs.Limits.{code_words, memory_words}
use Rattle.blocks.specs.Block.{block_bytes}
use Rattle.blocks.specs.Record.{most_inputs}
use Rattle.calls.specs.declared.Refusal.{Refusal}
use Rattle.riscu.specs.Lent.{LentList, LentMut}
use Rattle.jobs.specs.Job.{code_count, input_count, step_limit, first_path, given_count, JobRead, job_read, job_refusal_of}
use Rattle.jobs.specs.declared.Counts.{Counts}

-- whole blocks: every word is there or 0
abbrev pub Whole : List ℕ → Type 0
Whole bytes = length bytes % block_bytes ≡ 0

-- what the questions on the counts leave
pub record Sized (bytes : List ℕ) : Type 0 where
  pub whole : Whole bytes
  pub code : code_count bytes ≤ code_words
  pub inputs : input_count bytes ≤ most_inputs
  pub given : given_count bytes ≤ memory_words

abbrev pub counts_in : List ℕ → Counts
counts_in bytes =
    record { code = code_count bytes; inputs = input_count bytes; limit = step_limit bytes; first = first_path bytes }

-- a list whose first places are taken by others
abbrev pub over : List ℕ → List ℕ → List ℕ
over new old = new ++ drop (length new) old

-- what the reader answers: the numbers of the job, or the refusal
abbrev pub JobAnswer : Type 0
JobAnswer = Result Counts Refusal

-- its answer, and what it leaves: a refusal changes nothing
pub record JobLeft : Type 0 where
  pub answer : JobAnswer
  pub code : List ℕ
  pub intervals : List ℕ
  pub memory : List ℕ

abbrev pub job_left : JobAnswer → List ℕ → List ℕ → List ℕ → JobLeft
job_left answer code intervals memory =
    record { answer = answer; code = code; intervals = intervals; memory = memory }

unfoldable pub read_by : List ℕ → List ℕ → List ℕ → List ℕ → Option Refusal → JobLeft
read_by bytes code intervals memory (some r) = job_left (Err r) code intervals memory
read_by bytes code intervals memory none =
    let j : JobRead = job_read bytes in
    job_left (Ok (counts_in bytes)) (over j.code code) (over j.intervals intervals) j.memory

unfoldable pub read_to : List ℕ → List ℕ → List ℕ → List ℕ → JobLeft
read_to bytes code intervals memory = read_by bytes code intervals memory (job_refusal_of bytes)

-- what is lent to the reader and answered, at the return, and what document 01 gives for it
abbrev pub left_in : JobAnswer → LentMut → LentMut → LentMut → JobLeft
left_in answer code intervals memory = job_left answer code.exit.now intervals.exit.now memory.exit.now

abbrev pub read_into : LentList → LentMut → LentMut → LentMut → JobLeft
read_into bytes code intervals memory =
    read_to bytes.entry.now code.entry.now intervals.entry.now memory.entry.now
