-- One call: what is lent, the questions, and what the call leaves.
use Rattle.std.specs.Prelude.{ℕ, ◌+◌, ◌*◌, ◌/◌, ◌^◌, ◌<◌, Bool, true, false, List, [], ◌∷◌, ◌++◌, ltb, length, get_or, take, drop, replicate, Result, Ok, Err}
use Rattle.std.proofs.Math.Option.{Option, none, some}
use Rattle.boxes.specs.Boxes.{Box, ◌⋯◌}
use Rattle.listing.specs.First.{first}
use Rattle.listing.specs.Group.{Job}
use Rattle.listing.specs.Listing.{Path, listing}
use Rattle.blocks.specs.Record.{record_bytes, records}
use Rattle.blocks.specs.Report.{records_in}
use Rattle.calls.specs.Limits.{entry_words}
use Rattle.calls.specs.Questions.{Question, ◌otherwise◌, code_fits, intervals_fit, in_order, limit_fits, table_fits, memory_fits, report_fits, first_fits}
use Rattle.calls.specs.declared.Refusal.{Refusal}
use Rattle.calls.specs.declared.Refusal.TheVariants.{Code, Inputs, Order, Limit, Table, Memory, Report, First}
use Rattle.calls.specs.declared.Page.{Page}

-- what a call lends besides memory and the trace table
pub record Call : Type 0 where
  pub code : List ℕ
  pub intervals : List ℕ
  pub limit : ℕ
  pub report : List ℕ
  pub first : ℕ

abbrev pub call_of : List ℕ → List ℕ → ℕ → List ℕ → ℕ → Call
call_of code intervals limit report first =
    record { code = code; intervals = intervals; limit = limit; report = report; first = first }

-- how many inputs it has
abbrev pub inputs_of : Call → ℕ
inputs_of c = length c.intervals / 2

-- What the types of the lent parts say: the numbers of a list are below a bound.

abbrev pub Below : ℕ → List ℕ → Type 0
Below n l = (k : ℕ) → get_or l k 0 < n

pub record Typed (c : Call) : Type 0 where
  pub code : Below (2 ^ 32) c.code
  pub intervals : Below (2 ^ 64) c.intervals
  pub limit : c.limit < 2 ^ 64
  pub report : Below (2 ^ 8) c.report
  pub bytes : length c.report < 2 ^ 64
  pub first : c.first < 2 ^ 64

-- What an exploration answers: a page, or the refusal.
abbrev pub Answer : Type 0
Answer = Result Page Refusal

-- What an answer says: how many paths are written, whether a further path exists, whether the call was accepted.

unfoldable pub written : Answer → ℕ
written (Err r) = 0
written (Ok p) = p.count

unfoldable pub more : Answer → Bool
more (Err r) = false
more (Ok p) = p.more

unfoldable pub is_page : Answer → Bool
is_page (Err r) = false
is_page (Ok p) = true

-- low, high, low, high, ..
unfoldable pub box_of : List ℕ → Box
box_of [] = []
box_of (l ∷ []) = []
box_of (l ∷ (h ∷ v)) = (l ⋯ h) ∷ box_of v

-- the questions, in their order; `words` is the number of words of the table
unfoldable pub questions : List ℕ → ℕ → Call → List Question
questions memory words c =
    (code_fits (length c.code) otherwise Code)
    ∷ (intervals_fit (length c.intervals) otherwise Inputs)
    ∷ (in_order (box_of c.intervals) otherwise Order)
    ∷ (limit_fits c.limit otherwise Limit)
    ∷ (table_fits words otherwise Table)
    ∷ (memory_fits (length memory) otherwise Memory)
    ∷ (report_fits (record_bytes (inputs_of c)) (length c.report) otherwise Report)
    ∷ (first_fits c.first otherwise First)
    ∷ []

-- the first no decides
abbrev pub refusal_of : List ℕ → ℕ → Call → Option Refusal
refusal_of memory words c = first (questions memory words c)

-- what an accepted call feeds the plain listing
unfoldable pub job_of : List ℕ → ℕ → Call → Job
job_of memory words c =
    record { code = c.code; memory = memory; limit = c.limit; box = box_of c.intervals; entries = words / entry_words }

-- the paths that a page holds: from the first wanted on, as many as exist and fit
unfoldable pub page : Job → Call → List Path
page j c = take (records_in (inputs_of c) c.report) (drop c.first (listing j))

-- what the plain listing gives for a call: the answer, and the report as the call leaves it
pub record Reply : Type 0 where
  pub answer : Answer
  pub report : List ℕ

unfoldable pub reply_by : List ℕ → ℕ → Call → Option Refusal → Reply
reply_by memory words c (some r) = record { answer = Err r; report = c.report }
reply_by memory words c none =
    let l = listing (job_of memory words c) in
    let ps = page (job_of memory words c) c in
    record {
      answer = Ok (record { count = length ps; more = ltb (c.first + length ps) (length l) });
      report = records c.first ps ++ drop (record_bytes (inputs_of c) * length ps) c.report;
    }

unfoldable pub reply_to : List ℕ → ℕ → Call → Reply
reply_to memory words c = reply_by memory words c (refusal_of memory words c)

-- the table after a call: zero if it was accepted
unfoldable pub table_by : List ℕ → Option Refusal → List ℕ
table_by table (some r) = table
table_by table none = replicate (length table) 0

-- what a call leaves
pub record Left : Type 0 where
  pub reply : Reply
  pub table : List ℕ
  pub memory : List ℕ

abbrev pub left : Answer → List ℕ → List ℕ → List ℕ → Left
left answer report table memory = record { reply = record { answer = answer; report = report }; table = table; memory = memory }

unfoldable pub called : List ℕ → List ℕ → Call → Left
called memory table c =
    record {
      reply = reply_to memory (length table) c;
      table = table_by table (refusal_of memory (length table) c);
      memory = memory;
    }
