-- The questions on a header with some values have the first no of the questions on these values, whatever stands behind the header.
-- Assumes nothing.
use mathlib.Core.Path.{◌≡◌, refl, ap}
use mathlib.Core.Bool.{false, not}
use mathlib.Core.List.{List, [], ◌++◌}
use Prim.Native.Nat.{ℕ, ◌*◌, ◌%◌, ◌≤◌}
use native.Mathlib.Omega.{arith}
use borrow.Author.Tests.{leb-true, eq-eqb, le-leb, not-false}
use lib.ListN.{length}
use Rattle.riscu.specs.Limits.{memory_words}
use Rattle.listing.specs.First.{first}
use Rattle.listing.proofs.First.{first_same}
use Rattle.blocks.specs.Block.{block}
use Rattle.blocks.specs.Record.{most_inputs}
use Rattle.blocks.proofs.Reading.{Words}
use Rattle.calls.specs.Questions.{code_fits, inputs_fit, intervals_fit, in_order, limit_fits, memory_fits, first_fits}
use Rattle.calls.specs.Call.{box_of}
use Rattle.calls.specs.declared.Refusal.TheVariants.{Code, Inputs, Order, Limit, Memory, First}
use Rattle.calls.proofs.Pairs.{pairs_length}
use Rattle.jobs.specs.Job.{JobRead, code_count, input_count, step_limit, first_path, given_count, intervals_in, given_fits, header_questions}
use Rattle.writing.specs.Form.{given_of, header_words}
use Rattle.writing.specs.Write.{value_questions}
use Rattle.writing.specs.Written.{TypedValues}
use Rattle.writing.proofs.Given.{given_few}
use Rattle.writing.proofs.Header.{header_words_lem, code_read, inputs_read, limit_read, first_read, given_read, intervals_read}

module _ (j : JobRead) (typed : TypedValues j) (even : length j.intervals % 2 ≡ 0) (whole : length j.memory ≡ memory_words) (rest : List ℕ) where
  abbrev bytes : List ℕ
  bytes = block (header_words j) ++ rest

  words : Words (header_words j)
  words = header_words_lem j typed

  inputs_alike : inputs_fit (input_count bytes) ≡ intervals_fit (length j.intervals)
  inputs_alike = rw (inputs_read j words rest, eq-eqb (length j.intervals % 2) 0 even)

  -- once question 2 is answered yes
  module _ (yes : not (inputs_fit (input_count bytes)) ≡ false) where
    few : length j.intervals ≤ 2 * most_inputs
    few = omega (arith, inputs_read j words rest, leb-true (input_count bytes) most_inputs (not-false _ yes))

    order_alike : in_order (box_of (intervals_in bytes)) ≡ in_order (box_of j.intervals)
    order_alike = rw (intervals_read j words rest even few)

    memory_alike : given_fits (given_count bytes) ≡ memory_fits (length j.memory)
    memory_alike =
        let inputs : length (box_of j.intervals) ≤ most_inputs = omega (arith, few, pairs_length j.intervals) in
        rw (given_read j words rest inputs, eq-eqb (length j.memory) memory_words whole)
        (le-leb (given_of j.memory) memory_words (omega (arith, given_few j.memory)))

  pub all_alike : first (header_questions bytes) ≡ first (value_questions j)
  unfolding header_questions value_questions
  all_alike =
      first_same Code (not (code_fits (code_count bytes))) _ _ (rw (code_read j words rest))
      (λ _. first_same Inputs (not (inputs_fit (input_count bytes))) _ _ (ap not inputs_alike)
      (λ y. first_same Order (not (in_order (box_of (intervals_in bytes)))) _ _ (ap not (order_alike y))
      (λ _. first_same Limit (not (limit_fits (step_limit bytes))) _ _ (rw (limit_read j words rest))
      (λ _. first_same Memory (not (given_fits (given_count bytes))) _ _ (ap not (memory_alike y))
      (λ _. first_same First (not (first_fits (first_path bytes))) [] [] (rw (first_read j words rest))
      (λ _. refl))))))
