-- No field of a sheet is cut, whatever bytes a report holds: its numbers are words, and MAX has 20 digits.
use Rattle.std.specs.Prelude.{◌≡◌, List, [], ◌∷◌, ℕ, ◌+◌, ◌-◌, ◌*◌, ◌^◌, ◌≤◌, ◌<◌, length, drop, Ok}
use Rattle.boxes.specs.Boxes.{Interval, ◌∈◌}
use Rattle.words.specs.Word.{max_word}
use Rattle.blocks.specs.Said.{Said}
use Rattle.calls.specs.Call.{Below}
use Rattle.calls.specs.Done.{DoneLeft}
use Rattle.printing.specs.Printed.{digit, digits}
use Rattle.reports.specs.Readable.{all_said}
use Rattle.sheets.specs.Line.{field_columns, sheet_field, columns}
use Rattle.sheets.specs.Sheet.{SheetCall}
use Rattle.sheets.specs.Printed.{InColumns}

-- the number that digits show, behind others that show n
unfoldable pub number_shown : ℕ → List ℕ → ℕ
number_shown n [] = n
number_shown n (d ∷ ds) = number_shown (n * 10 + (d - digit 0)) ds

-- the number is a word, its field has 20 columns, and behind the spaces the digits show the whole number
pub record NotCut (n : ℕ) : Type 0 where
  pub word : n ≤ max_word
  pub size : length (sheet_field n) ≡ field_columns
  pub shows : number_shown 0 (drop (field_columns - length (digits n)) (sheet_field n)) ≡ n

-- a line: its numbers stand in their columns, and none is cut
pub record LineRight (a b c : ℕ) : Type 0 where
  pub in_columns : InColumns a b c (columns a b c)
  pub first : NotCut a
  pub second : NotCut b
  pub third : NotCut c

-- the lines of a path: its own, and one for each input
pub record LinesRight (s : Said) : Type 0 where
  pub own : LineRight s.number s.kind s.reason
  pub inputs : (i : ℕ) (v : Interval) → i < length s.box → v ∈ s.box → LineRight i v.low v.high

-- when a call is done, every line is right
pub record NoFieldCut (c : SheetCall) (l : DoneLeft) : Type 0 where
  pub lines : (n : ℕ) → l.answer ≡ Ok n → Below (2 ^ 8) c.report
      → (s : Said) → s ∈ all_said c.inputs c.report → LinesRight s
