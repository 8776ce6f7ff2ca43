-- The server's call: job blocks in, a report out, with the program's table and questions, and then 7.
use Rattle.std.specs.Prelude.{ℕ, List, Err}
use Rattle.std.proofs.Math.Option.{Option, none, some}
use Rattle.riscu.specs.Lent.{LentList, LentMut}
use Rattle.calls.specs.Call.{Answer, Reply, reply_to}
use Rattle.calls.specs.declared.Refusal.{Refusal}
use Rattle.jobs.specs.Job.{job_read, call_in, job_refusal_of}

-- the program's table
abbrev pub table_words : ℕ
table_words = 8192

-- what a call answers, and the report as it leaves it
abbrev pub reply : Answer → List ℕ → Reply
reply a report = record { answer = a; report = report }

-- the job's questions come first; after them only 7 can still be answered no
unfoldable pub served_by : List ℕ → List ℕ → Option Refusal → Reply
served_by bytes report (some r) = reply (Err r) report
served_by bytes report none = reply_to (job_read bytes).memory table_words (call_in bytes report)

unfoldable pub served : List ℕ → List ℕ → Reply
served bytes report = served_by bytes report (job_refusal_of bytes)

-- What is lent at the call, for the contracts.

abbrev pub served_on : LentList → LentMut → Reply
served_on job report = served job.entry.now report.entry.now
