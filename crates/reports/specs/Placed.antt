-- What a call that places rows promises: its refusals, the first listed, and our own complete reports.
use Rattle.std.specs.Prelude.{◌≡◌, ◌⊎◌, true, false, ℕ, ◌^◌, ◌≤◌, ◌<◌, length, get_or, Ok}
use mathlib.Core.List.{List, flat_map}
use Rattle.boxes.specs.Boxes.{Choice, Inside}
use Rattle.listing.specs.Group.{Job}
use Rattle.listing.specs.Listing.{Path}
use Rattle.blocks.specs.Report.{records_in}
use Rattle.blocks.specs.Said.{said_at}
use Rattle.calls.specs.Call.{Call, inputs_of, job_of}
use Rattle.calls.specs.Complete.{IsPath}
use Rattle.calls.specs.Faithful.{Faithful}
use Rattle.calls.specs.Engine.{Exchange}
use Rattle.calls.specs.Done.{DoneLeft, Completes}
use Rattle.calls.specs.Together.{Pages, bytes_written}
use Rattle.reports.specs.Placing.{rows_in, row_at, is_inside, no_path, PlaceCall, place_call_of, rows_fit, place_questions, place_deed, placed}

-- no record holds the row
abbrev pub HeldByNone : ℕ → List ℕ → List ℕ → Type 0
HeldByNone n report row = (k : ℕ) → k < records_in n report → is_inside row (said_at n report k).box ≡ false

-- record i is the first that holds the row
pub record FirstHolds (n : ℕ) (report row : List ℕ) (i : ℕ) : Type 0 where
  pub inside : i < records_in n report
  pub held : is_inside row (said_at n report i).box ≡ true
  pub not_before : (k : ℕ) → k < i → is_inside row (said_at n report k).box ≡ false

abbrev pub number_at : ℕ → List ℕ → ℕ → ℕ
number_at n report k = (said_at n report k).number

-- x is a row's answer
pub record RowPlaced (n : ℕ) (report row : List ℕ) (x : ℕ) : Type 0 where
  -- the first listed wins
  pub first_wins : (i : ℕ) → FirstHolds n report row i → x ≡ number_at n report i
  -- a row in no path has MAX
  pub in_none : HeldByNone n report row → x ≡ no_path
  -- there is no third case
  pub either : ((i : ℕ) × FirstHolds n report row i) ⊎ HeldByNone n report row
  -- and no other row has MAX, if every number of the report is below it
  pub only_none : ((k : ℕ) → k < records_in n report → number_at n report k < no_path) → x ≡ no_path → HeldByNone n report row

-- what a call leaves
pub record Places (c : PlaceCall) (l : DoneLeft) : Type 0 where
  -- the first no decides, and a refusal writes nothing
  pub completes : Completes (place_questions c) (place_deed c) l
  -- done, each row has its answer, in the order of the rows
  pub size : (m : ℕ) → l.answer ≡ Ok m → length l.list ≡ m
  pub each_row : (m : ℕ) → l.answer ≡ Ok m → (k : ℕ) → k < m
      → RowPlaced c.inputs c.report (row_at c.inputs c.rows k) (get_or l.list k 0)

-- a row's answer is the same whatever other rows come with it, and wherever it stands among them: two accepted calls on one report
abbrev pub SameAnswers : PlaceCall → PlaceCall → Type 0
SameAnswers c d = c.inputs ≡ d.inputs → c.report ≡ d.report
    → (m n : ℕ) → (placed c).answer ≡ Ok m → (placed d).answer ≡ Ok n → (i k : ℕ) → i < m → k < n
    → row_at c.inputs c.rows i ≡ row_at d.inputs d.rows k → get_or (placed c).list i 0 ≡ get_or (placed d).list k 0

-- a complete report of our own: the pages that accepted calls wrote of the job of c, from path 0 on until none remains, joined
pub record OwnReport (c : Call) (accepted : List Exchange) (report : List ℕ) : Type 0 where
  -- without inputs question 12 turns it away
  pub inputs : 1 ≤ inputs_of c
  pub pages : Pages c 0 accepted
  pub bytes : report ≡ flat_map bytes_written accepted
  -- it can be lent: its length is a word
  pub size : length report < 2 ^ 64

-- x is the number of the one path of the listing that holds the choice, and is not MAX
pub record OnPath (j : Job) (choice : Choice) (x : ℕ) : Type 0 where
  pub path : Path
  pub listed : IsPath j x path
  pub inside : Inside choice path.box
  pub only : (n : ℕ) (p : Path) → IsPath j n p → Inside choice p.box → n ≡ x
  pub below : x < no_path
  pub faithful : Faithful j path

-- what a call leaves that places rows in a complete report of the job
pub record OwnAnswers (j : Job) (n : ℕ) (rows : List ℕ) (l : DoneLeft) : Type 0 where
  -- it is not turned away
  pub answered : l.answer ≡ Ok (rows_in n rows)
  -- every row from the starting box has the number of its path
  pub from_box : (k : ℕ) → k < rows_in n rows → Inside (row_at n rows k) j.box → OnPath j (row_at n rows k) (get_or l.list k 0)
  -- every other row has MAX
  pub outside : (k : ℕ) → k < rows_in n rows → (Inside (row_at n rows k) j.box → ⊥) → get_or l.list k 0 ≡ no_path

-- in such a report of the job of c, any rows that pass 13 have these answers
abbrev pub OwnPlaced : List ℕ → ℕ → Call → List ℕ → Type 0
OwnPlaced memory words c report = (rows answers : List ℕ) → rows_fit (inputs_of c) rows answers ≡ true
    → OwnAnswers (job_of memory words c) (inputs_of c) rows (placed (place_call_of (inputs_of c) report rows answers))
