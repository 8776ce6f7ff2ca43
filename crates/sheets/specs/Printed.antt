-- What a call that prints a sheet promises: its refusals, what it writes, the columns of a line, and our own reports.
use Rattle.std.specs.Prelude.{◌≡◌, List, ◌++◌, ℕ, ◌+◌, ◌-◌, ◌≤◌, length, take, drop, Ok}
use Rattle.listing.specs.Listing.{Path, listing}
use Rattle.calls.specs.Call.{Call, inputs_of, job_of, page}
use Rattle.calls.specs.Engine.{Exchange}
use Rattle.calls.specs.Done.{DoneLeft, done_left, Completes}
use Rattle.calls.specs.Together.{bytes_written}
use Rattle.sheets.specs.Line.{spaces, field_columns, line_columns, first_column, second_column, third_column, sheet_field}
use Rattle.sheets.specs.Sheet.{sheet_length, SheetCall, sheet_call_of, text_of, length_of, sheet_questions, sheet_deed, printed}
use Rattle.sheets.specs.Shown.{sheet_of}

-- k columns of a line, the first of which is this column, counted from 1
abbrev pub columns_at : ℕ → ℕ → List ℕ → List ℕ
columns_at column k text = take k (drop (column - 1) text)

-- the columns behind a field are spaces, up to where the next one begins or the line has ended
abbrev pub BlankUpTo : ℕ → ℕ → List ℕ → Type 0
BlankUpTo column next text =
    let k = next - (column + field_columns) in columns_at (column + field_columns) k text ≡ spaces k

-- a line of three numbers: 72 columns, each field where the paper says, the rest spaces
pub record InColumns (a b c : ℕ) (text : List ℕ) : Type 0 where
  pub size : length text ≡ line_columns
  pub first : columns_at first_column field_columns text ≡ sheet_field a
  pub behind_first : BlankUpTo first_column second_column text
  pub second : columns_at second_column field_columns text ≡ sheet_field b
  pub behind_second : BlankUpTo second_column third_column text
  pub third : columns_at third_column field_columns text ≡ sheet_field c
  pub behind_third : BlankUpTo third_column (line_columns + 1) text

-- what a call leaves
pub record PrintsSheet (c : SheetCall) (l : DoneLeft) : Type 0 where
  -- the first no decides, and a refusal writes nothing
  pub completes : Completes (sheet_questions c) (sheet_deed c) l
  -- the text's length is known before
  pub known : length (text_of c) ≡ length_of c
  -- done, the text stands at the start of the sheet, and a longer sheet keeps its rest
  pub text : (n : ℕ) → l.answer ≡ Ok n → take n l.list ≡ text_of c
  pub rest : (n : ℕ) → l.answer ≡ Ok n → drop n l.list ≡ drop n c.sheet

-- on any sheet that is long enough, a report of n inputs is printed as the paths ps, numbered from first on
abbrev pub PrintedAs : ℕ → List ℕ → ℕ → List Path → Type 0
PrintedAs n report first ps = (sheet : List ℕ) → sheet_length n (length report) ≤ length sheet
    → let text = sheet_of first ps in printed (sheet_call_of n report sheet) ≡ done_left (Ok (length text)) (text ++ drop (length text) sheet)

-- the page that an accepted call on inputs wrote, and a complete report of a job
abbrev pub PagePrinted : List ℕ → ℕ → Exchange → Type 0
PagePrinted memory words x = 1 ≤ inputs_of x.call
    → PrintedAs (inputs_of x.call) (bytes_written x) x.call.first (page (job_of memory words x.call) x.call)

abbrev pub ListingPrinted : List ℕ → ℕ → Call → List ℕ → Type 0
ListingPrinted memory words c report = PrintedAs (inputs_of c) report 0 (listing (job_of memory words c))
