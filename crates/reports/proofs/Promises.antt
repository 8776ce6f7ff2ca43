-- What a call leaves: its refusals and each row's answer, which is the same whatever other rows come with it.
-- Assumes nothing.
use mathlib.Core.Path.{◌≡◌, sym, ap, ◌∙◌}
use mathlib.Core.Bool.{true, ◌&&◌, and-eq-true_iff}
use mathlib.Core.List.{List}
use mathlib.Core.Option.{none}
use Prim.Native.Nat.{ℕ, ◌%◌, ◌≤◌, ◌<◌}
use native.Mathlib.Nat.{zero-add}
use native.Mathlib.Omega.{arith}
use lib.Dec.{leb, eqb}
use lib.ListN.{length, get_or, length-map}
use borrow.Author.Tests.{not-false, leb-true, eqb-true}
use Rattle.boxes.specs.Boxes.{from}
use Rattle.boxes.proofs.Lists.{length_from, from_at}
use Rattle.listing.specs.First.{first}
use Rattle.listing.proofs.First.{first_none}
use Rattle.blocks.specs.Record.{most_inputs}
use Rattle.calls.specs.Questions.{inputs_fit}
use Rattle.calls.specs.Done.{done_left, Completes}
use Rattle.std.specs.Prelude.{Ok}
use Rattle.calls.proofs.Done.{left_done, completes}
use Rattle.reports.specs.Readable.{all_said, readable}
use Rattle.reports.specs.Placing.{rows_in, row_at, placing, placings, most_rows, PlaceCall, rows_fit, place_questions, place_deed, placed}
use Rattle.reports.specs.Placed.{Places, SameAnswers}
use Rattle.reports.proofs.Listed.{row_placed}
use Rattle.reports.proofs.Records.{placing_at, placings_are}

-- a readable report has an input
pub readable_inputs : (n : ℕ) (report : List ℕ) → readable n report ≡ true → (1 ≤ n) × (n ≤ most_inputs)
unfolding readable
readable_inputs n report e =
    let (a, b) = (and-eq-true_iff (leb 1 n) (inputs_fit n)).0 ((and-eq-true_iff (leb 1 n && inputs_fit n) _).0 e).0 in
    (leb-true 1 n a, leb-true n most_inputs b)

module _ (c : PlaceCall) where
  abbrev count : ℕ
  count = rows_in c.inputs c.rows

  abbrev answer_at : ℕ → ℕ
  answer_at = placing_at c.inputs c.report c.rows

  pub both_yes : readable c.inputs c.report ≡ true → rows_fit c.inputs c.rows c.answers ≡ true → first (place_questions c) ≡ none
  unfolding place_questions first
  both_yes e f = rw (e, f)

  -- an accepted call has as many inputs as fit, and an answer for each row
  pub accepted_fits : first (place_questions c) ≡ none → (c.inputs ≤ most_inputs) × (length c.answers ≡ count)
  unfolding place_questions
  accepted_fits e =
      let (at_12, rest) = first_none _ _ e in
      let fitting = ((and-eq-true_iff (eqb (length c.rows % c.inputs) 0) _).0 (not-false _ (first_none _ _ rest).0)).1 in
      let as_many = ((and-eq-true_iff (leb count most_rows) (eqb (length c.answers) count)).0 fitting).1 in
      ((readable_inputs c.inputs c.report (not-false _ at_12)).1, eqb-true (length c.answers) count as_many)

  all : Completes (place_questions c) (place_deed c) (placed c)
  all = completes (place_questions c) (place_deed c)

  placings_length : length (placings c.inputs c.report c.rows) ≡ count
  placings_length = ap length (placings_are c.inputs c.report c.rows) ∙ length-map (from 0 count) answer_at ∙ length_from count 0

  -- the answer is how many placings it wrote
  pub left_placed : {l : List ℕ} → first (place_questions c) ≡ none → l ≡ placings c.inputs c.report c.rows → done_left (Ok (length l)) l ≡ placed c
  left_placed e f =
      ap (λ (m : List ℕ). done_left (Ok (length m)) m) f
      ∙ ap (λ (k : ℕ). done_left (Ok k) (place_deed c).after) placings_length
      ∙ sym (left_done (place_questions c) (place_deed c) e)

  pub row_answer : (m : ℕ) → (placed c).answer ≡ Ok m → (k : ℕ) → k < m
      → get_or (placed c).list k 0 ≡ placing (all_said c.inputs c.report) (row_at c.inputs c.rows k)
  row_answer m e k l =
      ap (λ (ws : List ℕ). get_or ws k 0) (all.written m e ∙ placings_are c.inputs c.report c.rows)
      ∙ from_at answer_at 0 count 0 k (omega (arith, all.amount m e))
      ∙ ap answer_at (zero-add k)

  pub places : Places c (placed c)
  places =
      record {
        completes = all;
        size = λ m e. ap length (all.written m e) ∙ placings_length ∙ sym (all.amount m e);
        each_row = λ m e k l. rw (row_answer m e k l) (row_placed c.inputs c.report (row_at c.inputs c.rows k));
      }

pub same_answers : (c d : PlaceCall) → SameAnswers c d
same_answers c d n r x y a b i k l m e =
    let same : placing (all_said c.inputs c.report) (row_at c.inputs c.rows i)
    ≡ placing (all_said d.inputs d.report) (row_at d.inputs d.rows k) = rw (e, n, r) in
    row_answer c x a i l ∙ same ∙ sym (row_answer d y b k m)
