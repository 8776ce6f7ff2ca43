-- Demands 1, 2 and 3 of the server: one claim about a list of its calls, refused ones included.
use Rattle.std.specs.Prelude.{ℕ, ◌^◌, ◌<◌, ◌≡◌, ◌↔◌, true, cond, length, replicate, Err}
use mathlib.Core.List.{List, [], ◌∷◌, ◌++◌, map, flat_map}
use Rattle.boxes.specs.Boxes.{◌∈◌}
use Rattle.listing.specs.Group.{view_of}
use Rattle.listing.specs.Listing.{moves, enough}
use Rattle.blocks.specs.Record.{record_bytes}
use Rattle.calls.specs.Questions.{Question, ◌otherwise◌, AllYes, report_fits}
use Rattle.calls.specs.Call.{Call, inputs_of, Below, Reply, Left, is_page, job_of}
use Rattle.calls.specs.Engine.{Exchange}
use Rattle.calls.specs.Refuses.{FirstNo}
use Rattle.calls.specs.Reported.{Reported}
use Rattle.calls.specs.Together.{Pages, Joined}
use Rattle.calls.specs.declared.Refusal.{Refusal}
use Rattle.calls.specs.declared.Refusal.TheVariants.{Report}
use Rattle.jobs.specs.Job.{job_read, call_in, job_questions}
use Rattle.serving.specs.Served.{table_words, served}

-- what the types of a job and a report say: they are of bytes, and the report's length is a word
pub record Bytes (job report : List ℕ) : Type 0 where
  pub of_job : Below (2 ^ 8) job
  pub of_report : Below (2 ^ 8) report
  pub size : length report < 2 ^ 64

-- a call of the server: the job, the report as lent, and what was left
pub record ServedCall : Type 0 where
  pub job : List ℕ
  pub report : List ℕ
  pub left : Reply

-- it was made on bytes, and left what the contract says
pub record Made (y : ServedCall) : Type 0 where
  pub bytes : Bytes y.job y.report
  pub leaves : y.left ≡ served y.job y.report

-- the call of an exploration that its job stands for, and the memory that the job brings
abbrev pub call_by : ServedCall → Call
call_by y = call_in y.job y.report

abbrev pub memory_by : ServedCall → List ℕ
memory_by y = (job_read y.job).memory

-- the program's questions, and then 7
abbrev pub server_questions : List ℕ → List ℕ → List Question
server_questions bytes report =
    let size = record_bytes (inputs_of (call_in bytes report)) in
    job_questions bytes ++ ((report_fits size (length report) otherwise Report) ∷ [])

-- Each answer is an exploration that finishes or a numbered refusal, and each listed path agrees with the plain machine.
pub record ServedResponds (y : ServedCall) : Type 0 where
  -- the first no decides: a job is refused exactly if the first no gives that refusal
  pub refused : (r : Refusal) → (y.left.answer ≡ Err r) ↔ FirstNo (server_questions y.job y.report) r
  -- and listed exactly if every question has the answer yes
  pub listed : (is_page y.left.answer ≡ true) ↔ AllYes (server_questions y.job y.report)
  -- the exploration of a listed job finishes: in the end no group waits
  pub finishes : is_page y.left.answer ≡ true
      → let j = job_of (memory_by y) table_words (call_by y) in (moves view_of j (enough j)).waiting ≡ []
  -- a refused job changes nothing
  pub unchanged : (r : Refusal) → y.left.answer ≡ Err r → y.left.report ≡ y.report
  -- a listed one has its page in the report: each record tells a path that is faithful to the plain machine
  pub reported : is_page y.left.answer ≡ true → Reported (job_of (memory_by y) table_words (call_by y)) (call_by y) y.left

-- the table that the server explores with
abbrev pub zeros : List ℕ
zeros = replicate table_words 0

-- the call that a listed job stands for, on the job's memory and a zero table, and what it left; a refused job stands for none
abbrev pub exchange_by : ServedCall → List Exchange
exchange_by y =
    let left : Left = record { reply = y.left; table = zeros; memory = memory_by y } in
    cond (is_page y.left.answer) (record { call = call_by y; left = left } ∷ []) []

abbrev pub exchanges_of : List ServedCall → List Exchange
exchanges_of ys = flat_map exchange_by ys

pub record ServedTogether (ys : List ServedCall) : Type 0 where
  -- every answer and every byte of every report are what the plain listing gives for that job
  pub replies : map (λ (y : ServedCall). y.left) ys ≡ map (λ (y : ServedCall). served y.job y.report) ys
  pub responds : (y : ServedCall) → y ∈ ys → ServedResponds y
  -- if the listed jobs bring one memory and ask for one job's pages, the joined pages are its whole listing
  pub pages : (memory : List ℕ) (c : Call)
      → ((y : ServedCall) → y ∈ ys → is_page y.left.answer ≡ true → memory_by y ≡ memory)
      → Pages c 0 (exchanges_of ys) → Joined (job_of memory table_words c) (exchanges_of ys)
