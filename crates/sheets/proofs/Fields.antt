-- The numbers in the lines of a report are words, whatever bytes it holds: no field is cut.
-- Assumes nothing.
use mathlib.Core.Path.{◌≡◌, refl, ◌∙◌}
use mathlib.Core.List.Memᴰ
use mathlib.Core.List.{List, [], ◌∷◌}
use Prim.Native.Nat.{ℕ, ◌+◌, ◌-◌, ◌*◌, ◌^◌, ◌<◌, ◌≤◌}
use native.Mathlib.Omega.{arith}
use lib.ListN.{length, drop, length-map}
use Rattle.boxes.specs.Boxes.{from, ◌∈◌}
use Rattle.boxes.proofs.Lists.{length_from}
use Rattle.boxes.proofs.Choices.{from_mem}
use Rattle.blocks.specs.Block.{word_at}
use Rattle.blocks.specs.Layout as place
use Rattle.blocks.specs.Record.{most_inputs, record_words}
use Rattle.blocks.specs.Report.{records_in, record_at}
use Rattle.blocks.specs.Said.{Said, input_in, said_at}
use Rattle.blocks.proofs.Records.{record_below}
use Rattle.blocks.proofs.Said.{low_inside, high_inside}
use Rattle.calls.specs.Call.{Below}
use Rattle.calls.proofs.Done.{done_none}
use Rattle.printing.specs.Printed.{digits}
use Rattle.printing.proofs.Digits.{shown}
use Rattle.reports.specs.Readable.{all_said}
use Rattle.sheets.specs.Line.{field_columns, sheet_field}
use Rattle.sheets.specs.Sheet.{SheetCall, sheet_questions, sheet_deed, printed}
use Rattle.sheets.specs.Fields.{number_shown, NotCut, LineRight, LinesRight, NoFieldCut}
use Rattle.sheets.proofs.Columns.{field_length, field_shows, in_columns}
use Rattle.sheets.proofs.Promises.{accepted_fits}

-- the definition's reading of digits is that of the laws
shown_is : (n : ℕ) (ds : List ℕ) → number_shown n ds ≡ shown n ds
unfolding number_shown shown
shown_is n [] = refl
shown_is n (d ∷ ds) = shown_is (n * 10 + (d - 48)) ds

word_not_cut : (n : ℕ) → n < 2 ^ 64 → NotCut n
word_not_cut n h =
    record {
      word = omega arith;
      size = field_length n;
      shows = shown_is 0 (drop (field_columns - length (digits n)) (sheet_field n)) ∙ field_shows n h;
    }

module _ (n : ℕ) (few : n ≤ most_inputs) (report : List ℕ) (bytes : Below (2 ^ 8) report) where
  module _ (k : ℕ) (inside : k < records_in n report) where
    word_shown : (p : ℕ) → p < record_words n → NotCut (word_at (record_at n report k) p)
    word_shown p l = word_not_cut _ (record_below n report bytes k p inside l)

    line : {a b c : ℕ} → NotCut a → NotCut b → NotCut c → LineRight a b c
    line {a} {b} {c} x y z =
        record { in_columns = in_columns a b c; first = x; second = y; third = z }

    record_right : LinesRight (said_at n report k)
    record_right =
        record {
          own = line (word_shown place.number (omega arith)) (word_shown place.kind (omega arith)) (word_shown place.reason (omega arith));
          inputs = λ i v l m.
              let (p, o, e) = Memᴰ.of_map (input_in n (record_at n report k)) (from 0 n) m in
              let inside = from_mem n o in
              line (word_not_cut i (omega (arith, length-map (from 0 n) (input_in n (record_at n report k)) ∙ length_from n 0)))
              (rw (← e) (word_shown (place.low_at n p) (low_inside n p (omega (arith, inside)) few)))
              (rw (← e) (word_shown (place.high_at n p) (high_inside n p (omega (arith, inside)) few)));
        }

  pub lines_right : (s : Said) → s ∈ all_said n report → LinesRight s
  lines_right s m =
      let (k, o, e) = Memᴰ.of_map (said_at n report) (from 0 (records_in n report)) m in
      rw (← e) (record_right k (omega (arith, from_mem (records_in n report) o)))

pub no_field_cut : (c : SheetCall) → NoFieldCut c (printed c)
no_field_cut c =
    record { lines = λ n e. lines_right c.inputs (accepted_fits c (done_none (sheet_questions c) (sheet_deed c) e)).0 c.report }
