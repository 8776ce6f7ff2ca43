-- What the code's contracts use beside the definitions: sizes, what a path adds to the counts, and the sums.
use Rattle.std.specs.Prelude.{ℕ, ◌+◌, ◌*◌, ◌≤◌, ◌<◌, ◌^◌, ◌≡◌, Bool, cond, List, [], ◌∷◌, ◌++◌, map, ltb, eqb, length, take, drop, replicate, Option, Some, None, Result as Answered, Ok, Err}
use Rattle.std.proofs.Math.Option.{none}
use Rattle.boxes.specs.Boxes.{Box, from, size}
use Rattle.boxes.specs.Working.Cuts.{Proper}
use Rattle.riscu.specs.Lent.{LentList}
use Rattle.listing.specs.First.{first}
use Rattle.listing.specs.Group.{Job}
use Rattle.listing.specs.Listing.{Path}
use Rattle.blocks.specs.Record.{most_inputs, record_bytes}
use Rattle.blocks.specs.Report.{records_in}
use Rattle.blocks.specs.Said.{Said, said_at, said_of}
use Rattle.calls.specs.Call.{Call, call_of, Below, Typed, refusal_of, job_of}
use Rattle.jobs.specs.declared.Counts.{Counts}
use Rattle.serving.specs.Served.{table_words}
use Rattle.counting.specs.Counting.{Result, result_in, most_paths, kind_places, counts_by}
use Rattle.counting.specs.Count.{size_questions, count_refused, counted_by}
use Rattle.counting.specs.declared.Counted.{Counted}
use Rattle.calls.specs.declared.Refusal.{Refusal}
use Rattle.counting.specs.declared.adding.Entry.{Entry}

-- a size, if it is a word
abbrev pub sized : ℕ → Option ℕ
sized n = cond (ltb n (2 ^ 64)) (Some n) None

-- a box with a choice, and with fewer than 2^64
pub record FitsWord (b : Box) : Type 0 where
  pub proper : Proper b
  pub fits : size b < 2 ^ 64

-- What a path adds: its choices, to its result.
pub record Part : Type 0 where
  pub result : Result
  pub choices : ℕ

abbrev pub part_in : Said → Part
part_in s = record { result = result_in s; choices = size s.box }

abbrev pub part_of : Path → Part
part_of p = part_in (said_of 0 p)

-- the first records of a report
unfoldable pub parts_in : ℕ → List ℕ → ℕ → List Part
parts_in n report count = map (λ (k : ℕ). part_in (said_at n report k)) (from 0 count)

-- the choices of the parts whose result passes a test, and of all
unfoldable pub sum_on : (Result → Bool) → List Part → ℕ
sum_on test [] = 0
sum_on test (p ∷ ps) = cond (test p.result) p.choices 0 + sum_on test ps

unfoldable pub sum_all : List Part → ℕ
sum_all [] = 0
sum_all (p ∷ ps) = p.choices + sum_all ps

abbrev pub results_of : List Part → List Result
results_of ps = map (λ (p : Part). p.result) ps

unfoldable pub added_up : List Part → ℕ → Counted
added_up ps total = counts_by (λ (test : Result → Bool). sum_on test ps) (results_of ps) total

-- what the adding asks of a report
pub record Adds (report : List ℕ) (n count total : ℕ) : Type 0 where
  pub inputs : n ≤ most_inputs
  pub records : count ≤ records_in n report
  pub few : count ≤ most_paths
  pub proper : (k : ℕ) → k < count → Proper (said_at n report k).box
  pub kinds : (k : ℕ) → k < count → (said_at n report k).kind < kind_places
  pub sum : sum_all (parts_in n report count) ≡ total
  pub fits : total < 2 ^ 64

-- Values with their choices.

abbrev pub entry : ℕ → ℕ → Entry
entry v n = record { value = v; count = n }

unfoldable pub sum_of : List Entry → ℕ
sum_of [] = 0
sum_of (e ∷ es) = e.count + sum_of es

-- one more entry goes along the list: to the one of its value, or it changes places with each greater one
unfoldable pub carried : Entry → List Entry → List Entry
carried p [] = p ∷ []
carried p (e ∷ es) =
    cond (eqb p.value e.value) (entry p.value (p.count + e.count) ∷ es)
    (cond (ltb p.value e.value) (p ∷ carried e es) (e ∷ carried p es))

-- a list over the front of another
abbrev pub laid : List Entry → List Entry → List Entry
laid es old = es ++ drop (length es) old

pub record Room (places : List Entry) (used : ℕ) (p : Entry) : Type 0 where
  pub free : used < length places
  pub fits : p.count + sum_of (take used places) < 2 ^ 64

pub record Added (places : List Entry) (used : ℕ) (p : Entry) (after : List Entry) (r : ℕ) : Type 0 where
  pub lists : after ≡ laid (carried p (take used places)) places
  pub count : r ≡ length (carried p (take used places))

-- A job that was read.

-- its call from path 0 on, with a report of as many paths as can be counted
abbrev pub started_call : List ℕ → List ℕ → Counts → Call
started_call code intervals k =
    let report = replicate {A = ℕ} (most_paths * record_bytes k.inputs) 0 in
    call_of (take k.code code) (take (2 * k.inputs) intervals) k.limit report 0

-- what its questions leave: the counts fit the lists, and that call is accepted; every number fits its type
pub record Startable (code intervals memory : List ℕ) (k : Counts) : Type 0 where
  pub code_words : k.code ≤ length code
  pub interval_words : 2 * k.inputs ≤ length intervals
  pub memory_below : Below (2 ^ 64) memory
  pub typed : Typed (started_call code intervals k)
  pub accepted : refusal_of memory table_words (started_call code intervals k) ≡ none

abbrev pub started_job : List ℕ → List ℕ → List ℕ → Counts → Job
started_job code intervals memory k = job_of memory table_words (started_call code intervals k)

abbrev pub job_lent : LentList → LentList → LentList → Counts → Job
job_lent code intervals memory k = started_job code.entry.now intervals.entry.now memory.entry.now k

-- questions 15 and 16, and the counts
abbrev pub counted_job : Job → Counted
counted_job j = counted_by j (first (size_questions j))

-- an answer as C has it: the counts, or those of a job that is turned away
abbrev pub in_one : Answered Counted Refusal → Counted
in_one (Ok c) = c
in_one (Err r) = count_refused r
