-- What a call leaves: its refusals, the text and the rest of the sheet.
-- Assumes nothing.
use mathlib.Core.Path.{◌≡◌, sym, ap, ◌∙◌}
use mathlib.Core.Bool.{true}
use mathlib.Core.List.{List}
use mathlib.Core.Option.{none}
use Prim.Native.Nat.{ℕ, ◌≤◌}
use native.Mathlib.Omega.{arith}
use borrow.Author.Tests.{not-false, leb-true, le-leb}
use lib.ListN.{length}
use lib.Seq.{take-append_seam, drop-append_seam}
use Rattle.listing.specs.First.{first}
use Rattle.listing.proofs.First.{first_none}
use Rattle.blocks.specs.Record.{most_inputs}
use Rattle.calls.specs.Done.{done_left, Completes}
use Rattle.std.specs.Prelude.{Ok}
use Rattle.calls.proofs.Done.{left_done, completes}
use Rattle.printing.specs.Output.{fitted, fitting}
use Rattle.printing.proofs.Outputs.{all_fits}
use Rattle.reports.specs.Readable.{readable}
use Rattle.reports.proofs.Promises.{readable_inputs}
use Rattle.sheets.specs.Sheet.{SheetCall, text_of, length_of, sheet_questions, sheet_deed, printed}
use Rattle.sheets.specs.Printed.{PrintsSheet}
use Rattle.sheets.proofs.Lengths.{text_length}

module _ (c : SheetCall) where
  pub both_yes : readable c.inputs c.report ≡ true → length_of c ≤ length c.sheet → first (sheet_questions c) ≡ none
  unfolding sheet_questions first
  both_yes e l = rw (e, le-leb (length_of c) (length c.sheet) l)

  -- an accepted call has as many inputs as fit, and room for the text
  pub accepted_fits : first (sheet_questions c) ≡ none → (c.inputs ≤ most_inputs) × (length (text_of c) ≤ length c.sheet)
  unfolding sheet_questions
  accepted_fits e =
      let (at_12, rest) = first_none _ _ e in
      let l = leb-true (length_of c) (length c.sheet) (not-false _ (first_none _ _ rest).0) in
      ((readable_inputs c.inputs c.report (not-false _ at_12)).1, omega (arith, text_length c.inputs c.report))

  -- the text written as far as it fits is then all of it
  pub left_printed : {l : List ℕ} {n : ℕ} → first (sheet_questions c) ≡ none → (l ≡ fitted (text_of c) c.sheet) × (n ≡ fitting (text_of c) c.sheet)
      → done_left (Ok n) l ≡ printed c
  left_printed {l} {n} e (f, g) =
      let (text, size) = all_fits (text_of c) c.sheet (accepted_fits e).1 in
      ap (λ (k : ℕ). done_left (Ok k) l) (g ∙ size ∙ text_length c.inputs c.report)
      ∙ ap (done_left (Ok (length_of c))) (f ∙ text)
      ∙ sym (left_done (sheet_questions c) (sheet_deed c) e)

  all : Completes (sheet_questions c) (sheet_deed c) (printed c)
  all = completes (sheet_questions c) (sheet_deed c)

  size_is : (n : ℕ) → (printed c).answer ≡ Ok n → n ≡ length (text_of c)
  size_is n e = all.amount n e ∙ sym (text_length c.inputs c.report)

  pub prints_sheet : PrintsSheet c (printed c)
  prints_sheet =
      record {
        completes = all;
        known = text_length c.inputs c.report;
        text = λ n e. rw (all.written n e, size_is n e) (take-append_seam (text_of c) _);
        rest = λ n e. rw (all.written n e, size_is n e) (drop-append_seam (text_of c) _);
      }
