-- What the program prints: `turned away N`, or the listing.
use Rattle.std.specs.Prelude.{List, ℕ, Ok, Err}
use Rattle.riscu.specs.Lent.{LentList, LentMut}
use Rattle.calls.specs.Questions.{number}
use Rattle.calls.specs.Call.{Answer, Reply}
use Rattle.jobs.specs.Job.{input_count}
use Rattle.printing.specs.Printed.{turned_away, listing_text}
use Rattle.serving.specs.Served.{served_on}

-- a report of 64 paths
abbrev pub report_paths : ℕ
report_paths = 64

-- the answer to a job of n inputs
unfoldable pub response_by : ℕ → Answer → List ℕ → List ℕ
response_by n (Err r) report = turned_away (number r)
response_by n (Ok p) report = listing_text n p.count p.more report

abbrev pub response_to : List ℕ → Reply → List ℕ
response_to job l = response_by (input_count job) l.answer l.report

-- the text for what is lent at the call
abbrev pub response_on : LentList → LentMut → List ℕ
response_on job report = response_to job.entry.now (served_on job report)
