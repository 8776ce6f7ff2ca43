-- Document 02, No. 6: the sheet of a report, and the call that prints it.
use Rattle.std.specs.Prelude.{ℕ, ◌+◌, ◌*◌, ◌/◌, min, length, drop}
use mathlib.Core.List.{List, [], ◌∷◌, ◌++◌, flat_map}
use Rattle.boxes.specs.Boxes.{Box}
use Rattle.words.specs.Word.{max_word}
use Rattle.riscu.specs.Lent.{LentList, LentMut}
use Rattle.blocks.specs.Record.{record_bytes}
use Rattle.blocks.specs.Said.{Said}
use Rattle.calls.specs.Questions.{Question, ◌otherwise◌, space_fits}
use Rattle.calls.specs.Done.{DoneLeft, Deed, done_to}
use Rattle.calls.specs.declared.Refusal.TheVariants.{Records, Space}
use Rattle.reports.specs.Readable.{all_said, readable}
use Rattle.sheets.specs.Line.{sheet_line, line_bytes}

-- a line for each input: its number, counted from i, low and high
unfoldable pub input_lines : ℕ → Box → List ℕ
input_lines i [] = []
input_lines i (v ∷ b) = sheet_line i v.low v.high ++ input_lines (i + 1) b

-- a path's line, its number, kind and reason, and then those of its inputs, from 0
unfoldable pub path_lines : Said → List ℕ
path_lines s = sheet_line s.number s.kind s.reason ++ input_lines 0 s.box

abbrev pub sheet_text : ℕ → List ℕ → List ℕ
sheet_text n report = flat_map path_lines (all_said n report)

-- The sheet's length, from the input count and the report's length: a line for each path, and one for each of its inputs.

abbrev pub line_count : ℕ → ℕ → ℕ
line_count n report_bytes = (1 + n) * (report_bytes / record_bytes n)

abbrev pub sheet_length : ℕ → ℕ → ℕ
sheet_length n report_bytes = line_bytes * line_count n report_bytes

-- as a caller is told it: MAX if it is no word
abbrev pub sheet_bytes : ℕ → ℕ → ℕ
sheet_bytes n report_bytes = min (sheet_length n report_bytes) max_word

-- what a call lends: an input count, a report page without its unused bytes, and the sheet to write
pub record SheetCall : Type 0 where
  pub inputs : ℕ
  pub report : List ℕ
  pub sheet : List ℕ

abbrev pub sheet_call_of : ℕ → List ℕ → List ℕ → SheetCall
sheet_call_of inputs report sheet = record { inputs = inputs; report = report; sheet = sheet }

-- the text of a call's sheet, and its length
abbrev pub text_of : SheetCall → List ℕ
text_of c = sheet_text c.inputs c.report

abbrev pub length_of : SheetCall → ℕ
length_of c = sheet_length c.inputs (length c.report)

-- the questions, in their order; 12 is that of the rows, and 14 is asked with the length that is known before
unfoldable pub sheet_questions : SheetCall → List Question
sheet_questions c =
    (readable c.inputs c.report otherwise Records)
    ∷ (space_fits (length_of c) (length c.sheet) otherwise Space)
    ∷ []

-- what is to be done: the text on the sheet; a longer sheet keeps its rest
abbrev pub sheet_deed : SheetCall → Deed
sheet_deed c =
    record {
      amount = length_of c;
      lent = c.sheet;
      after = text_of c ++ drop (length (text_of c)) c.sheet;
    }

abbrev pub printed : SheetCall → DoneLeft
printed c = done_to (sheet_questions c) (sheet_deed c)

-- the call of what is lent, and what it leaves

abbrev pub sheet_call_lent : ℕ → LentList → LentList → SheetCall
sheet_call_lent inputs report sheet = sheet_call_of inputs report.entry.now sheet.entry.now

abbrev pub printed_on : ℕ → LentList → LentMut → DoneLeft
printed_on inputs report sheet = printed (sheet_call_of inputs report.entry.now sheet.entry.now)
