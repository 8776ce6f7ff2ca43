-- Document 02, No. 2: which path of a report does each row take?
use Rattle.std.specs.Prelude.{ℕ, ◌*◌, ◌/◌, ◌%◌, Bool, true, false, cond, ◌&&◌, List, [], ◌∷◌, map, leb, eqb, length, take, drop}
use Rattle.boxes.specs.Boxes.{Choice, Box, from}
use Rattle.words.specs.Word.{max_word}
use Rattle.riscu.specs.Lent.{LentList, LentMut}
use Rattle.blocks.specs.Said.{Said}
use Rattle.calls.specs.Questions.{Question, ◌otherwise◌}
use Rattle.calls.specs.Done.{DoneLeft, Deed, done_to}
use Rattle.calls.specs.declared.Refusal.TheVariants.{Records, Rows}
use Rattle.reports.specs.Readable.{all_said, readable}

-- rows of n values, one behind the other

abbrev pub rows_in : ℕ → List ℕ → ℕ
rows_in n rows = length rows / n

abbrev pub row_at : ℕ → List ℕ → ℕ → List ℕ
row_at n rows k = take n (drop (n * k) rows)

abbrev pub rows_of : ℕ → List ℕ → List (List ℕ)
rows_of n rows = map (row_at n rows) (from 0 (rows_in n rows))

-- a row, or any choice, lies in a box: each value between the low and the high of its input
unfoldable pub is_inside : Choice → Box → Bool
is_inside [] [] = true
is_inside [] (v ∷ b) = false
is_inside (x ∷ c) [] = false
is_inside (x ∷ c) (v ∷ b) = leb v.low x && (leb x v.high && is_inside c b)

-- MAX, for a row in no path
abbrev pub no_path : ℕ
no_path = max_word

-- the path number of the first record whose box holds the row, or MAX
unfoldable pub placing : List Said → List ℕ → ℕ
placing [] row = no_path
placing (s ∷ ss) row = cond (is_inside row s.box) s.number (placing ss row)

-- each row's placing, in the order of the rows
abbrev pub placings : ℕ → List ℕ → List ℕ → List ℕ
placings n report rows = map (placing (all_said n report)) (rows_of n rows)

-- what a call lends: an input count, a report page without its unused bytes, rows, and a list for the answers
pub record PlaceCall : Type 0 where
  pub inputs : ℕ
  pub report : List ℕ
  pub rows : List ℕ
  pub answers : List ℕ

abbrev pub place_call_of : ℕ → List ℕ → List ℕ → List ℕ → PlaceCall
place_call_of inputs report rows answers = record { inputs = inputs; report = report; rows = rows; answers = answers }

abbrev pub most_rows : ℕ
most_rows = 1024

-- 13: whole rows, at most 1,024, and as many answers
abbrev pub rows_fit : ℕ → List ℕ → List ℕ → Bool
rows_fit n rows answers = eqb (length rows % n) 0 && (leb (rows_in n rows) most_rows && eqb (length answers) (rows_in n rows))

-- the questions, in their order
unfoldable pub place_questions : PlaceCall → List Question
place_questions c =
    (readable c.inputs c.report otherwise Records)
    ∷ (rows_fit c.inputs c.rows c.answers otherwise Rows)
    ∷ []

-- what is to be done: all rows placed, in the list for the answers
abbrev pub place_deed : PlaceCall → Deed
place_deed c =
    record {
      amount = rows_in c.inputs c.rows;
      lent = c.answers;
      after = placings c.inputs c.report c.rows;
    }

abbrev pub placed : PlaceCall → DoneLeft
placed c = done_to (place_questions c) (place_deed c)

-- the call of what is lent, and what it leaves

abbrev pub place_call_lent : ℕ → LentList → LentList → LentList → PlaceCall
place_call_lent inputs report rows answers = place_call_of inputs report.entry.now rows.entry.now answers.entry.now

abbrev pub placed_on : ℕ → LentList → LentList → LentMut → DoneLeft
placed_on inputs report rows answers = placed (place_call_of inputs report.entry.now rows.entry.now answers.entry.now)
