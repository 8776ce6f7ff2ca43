-- What a call that writes a job promises, and what reader and writer are to each other.
use Rattle.std.specs.Prelude.{◌≡◌, ◌↔◌, ◌≢◌, true, List, ◌++◌, ℕ, suc, ◌*◌, ◌%◌, ◌^◌, ◌≤◌, ◌<◌, length, take, drop, Ok, Err}
use Rattle.std.proofs.Math.Option.{none, some}
use Rattle.riscu.specs.Limits.{memory_words}
use Rattle.blocks.specs.Block.{block_bytes, block, checks_agree}
use Rattle.calls.specs.Questions.{AllYes}
use Rattle.calls.specs.Call.{Below}
use Rattle.calls.specs.Border.{SaysRefusal}
use Rattle.calls.specs.Done.{Completion, DoneLeft, done_left, refusal_from, Completes}
use Rattle.calls.specs.declared.Refusal.{Refusal}
use Rattle.calls.specs.declared.Refusal.TheVariants.{Form, Space}
use Rattle.jobs.specs.Job.{JobRead, given_count, memory_at, job_read, most_blocks, whole_blocks, job_refusal_of}
use Rattle.writing.specs.Form.{header_words, job_form, form_length}
use Rattle.writing.specs.Write.{WriteCall, write_call_of, value_questions, write_questions, write_deed, job_written, bytes_written}
use Rattle.writing.specs.declared.WriteOutcome.{WriteOutcome}

-- what a call leaves
pub record WritesJob (c : WriteCall) (l : DoneLeft) : Type 0 where
  -- the first no decides; accepted, it answers the length that was known before; a refusal writes nothing
  pub completes : Completes (write_questions c) (write_deed c) l
  -- accepted, the job stands at the start of the space, and a longer space keeps its rest
  pub job : (n : ℕ) → l.answer ≡ Ok n → take n l.list ≡ job_form c.values
  pub rest : (n : ℕ) → l.answer ≡ Ok n → drop n l.list ≡ drop n c.space

-- the numbers at the border say all of the answer
pub record WriteInNumbers (o : WriteOutcome) (a : Completion) : Type 0 where
  pub refusal : SaysRefusal o.refused (refusal_from a)
  pub bytes : o.bytes ≡ bytes_written a

-- what the types of the lent values say
pub record TypedValues (j : JobRead) : Type 0 where
  pub code : Below (2 ^ 32) j.code
  pub code_count : length j.code < 2 ^ 64
  pub intervals : Below (2 ^ 64) j.intervals
  pub interval_count : length j.intervals < 2 ^ 64
  pub limit : j.limit < 2 ^ 64
  pub first : j.first < 2 ^ 64
  pub memory : Below (2 ^ 64) j.memory
  pub memory_count : length j.memory < 2 ^ 64

-- values that no question refuses
abbrev pub Passes : JobRead → Type 0
Passes j = AllYes (value_questions j)

-- The reader gets back the same values from what was written, which passes every question. The longest job is 19 blocks.
pub record ReadBack (j : JobRead) : Type 0 where
  pub accepted : job_refusal_of (job_form j) ≡ none
  pub same : job_read (job_form j) ≡ j
  pub size : length (job_form j) ≡ form_length j
  pub most : form_length j ≤ most_blocks * block_bytes

-- the last memory word that a job gives is not 0
abbrev pub NoTrailingZero : List ℕ → Type 0
NoTrailingZero bytes = (n : ℕ) → given_count bytes ≡ suc n → memory_at bytes n ≢ 0

-- trailing zero memory words are not written
pub record GivesFew (j : JobRead) : Type 0 where
  pub given : given_count (job_form j) ≤ memory_words
  pub last : NoTrailingZero (job_form j)

-- The reader refuses these bytes exactly if the writer refuses these values so, whatever space is lent. The form is the reader's to
-- ask, and the space the writer's.
abbrev pub Alike : JobRead → List ℕ → Type 0
Alike j bytes =
    (r : Refusal) → r ≢ Form → r ≢ Space → (space : List ℕ)
    → (job_refusal_of bytes ≡ some r) ↔ ((job_written (write_call_of j space)).answer ≡ Err r)

-- Values are refused exactly as the reader would refuse a header with these values: the header alone, and whatever stands behind it, in
-- whole blocks whose checks agree. A header has whole pairs and says how many of 512 words are given, so the values have these too.
pub record RefusedAlike (j : JobRead) : Type 0 where
  pub alone : length j.intervals % 2 ≡ 0 → length j.memory ≡ memory_words → Alike j (block (header_words j))
  pub in_front : length j.intervals % 2 ≡ 0 → length j.memory ≡ memory_words → (rest : List ℕ) →
      let bytes = block (header_words j) ++ rest in
      whole_blocks bytes ≡ true → checks_agree bytes ≡ true → Alike j bytes

-- a job that the reader accepts
pub record AcceptedJob (bytes : List ℕ) : Type 0 where
  pub typed : Below (2 ^ 8) bytes
  pub accepted : job_refusal_of bytes ≡ none

-- jobs mean the same if the reader gets the same from them
pub record SameMeaning (a b : List ℕ) : Type 0 where
  pub one_accepted : AcceptedJob a
  pub other_accepted : AcceptedJob b
  pub read : job_read a ≡ job_read b

-- a job in the writer's form: what the writer makes of some values that it accepts
pub record WritersForm (bytes : List ℕ) : Type 0 where
  pub values : JobRead
  pub typed : TypedValues values
  pub passes : Passes values
  pub form : bytes ≡ job_form values

-- Of all jobs that mean the same as an accepted one, exactly one is the writer's form.
pub record OneForm (bytes : List ℕ) : Type 0 where
  -- all that the reader accepts can be written, in a space that is long enough
  pub written_as : (space : List ℕ) → form_length (job_read bytes) ≤ length space
      → job_written (write_call_of (job_read bytes) space)
      ≡ done_left (Ok (form_length (job_read bytes))) (job_form (job_read bytes) ++ drop (form_length (job_read bytes)) space)
  pub means : SameMeaning (job_form (job_read bytes)) bytes
  pub is_form : WritersForm (job_form (job_read bytes))
  pub only : (other : List ℕ) → SameMeaning other bytes → WritersForm other → other ≡ job_form (job_read bytes)
  -- writing a read job a second time changes no byte
  pub again : job_form (job_read (job_form (job_read bytes))) ≡ job_form (job_read bytes)
  -- so jobs mean the same exactly if their forms are the same bytes
  pub alike : (other : List ℕ) → AcceptedJob other → (job_read other ≡ job_read bytes) ↔ (job_form (job_read other) ≡ job_form (job_read bytes))

-- An accepted job is free in one thing alone: how many zero words at the end of memory it gives.
pub record FreeInZeros (bytes : List ℕ) : Type 0 where
  -- what the reader gets and how many memory words are given say every byte
  pub every_byte : (other : List ℕ) → SameMeaning other bytes → given_count other ≡ given_count bytes → other ≡ bytes
  -- no fewer words are given than in the writer's form, and those beyond are 0
  pub no_fewer : given_count (job_form (job_read bytes)) ≤ given_count bytes
  pub beyond : (i : ℕ) → given_count (job_form (job_read bytes)) ≤ i → i < given_count bytes → memory_at bytes i ≡ 0
  -- it is in the writer's form exactly if it gives as many, and exactly if the last that it gives is not 0
  pub as_many : WritersForm bytes ↔ (given_count bytes ≡ given_count (job_form (job_read bytes)))
  pub no_zero : WritersForm bytes ↔ NoTrailingZero bytes
