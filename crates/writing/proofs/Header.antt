-- The words of a header that the writer makes, as the reader finds them in front of any bytes.
-- Assumes nothing.
use mathlib.Core.Path.{◌≡◌, refl, ap, ◌∙◌}
use mathlib.Core.List.{List, [], ◌∷◌, ◌++◌}
use Prim.Native.Nat.{ℕ, zero, suc, ◌+◌, ◌-◌, ◌*◌, ◌/◌, ◌%◌, ◌^◌, ◌≤◌, ◌<◌}
use native.Mathlib.Omega.{arith}
use borrow.Author.Tests.{eqb-true, eqb-false}
use lib.Dec.{eqb}
use lib.ListN.{length, get_or, replicate, length-set, length-replicate, length-map}
use Rattle.boxes.specs.Boxes.{Box, lows, highs}
use Rattle.boxes.proofs.Lists.{by_test}
use Rattle.blocks.specs.Block.{payload_words, word_at, block}
use Rattle.blocks.specs.Record.{most_inputs}
use Rattle.blocks.proofs.Bytes.{get_d_padded, block_length, word_left}
use Rattle.blocks.proofs.Reading.{Words, block_word}
use Rattle.blocks.proofs.Rows.{with_ends, ends_put, low_at_lem, high_at_lem, back_at}
use Rattle.calls.specs.Call.{box_of}
use Rattle.calls.proofs.Pairs.{pairs}
use Rattle.jobs.specs.Header as header
use Rattle.jobs.specs.Job.{JobRead, mark, code_count, input_count, step_limit, first_path, low_of, high_of, given_count, interval_at, intervals_in}
use Rattle.jobs.proofs.Copied.{copied_is}
use Rattle.jobs.proofs.Typed.{zeros_typed}
use Rattle.writing.specs.Form.{given_of, inputs_of, header_words}
use Rattle.writing.specs.Written.{TypedValues}
use Rattle.writing.proofs.Given.{given_few}
use Rattle.writing.proofs.Inputs.{inputs_length, inputs_before, inputs_below, inputs_rows, low_end, high_end}
use Rattle.writing.proofs.Stores.{append_below}

pub header_length : (j : JobRead) → length (header_words j) ≡ payload_words
unfolding header_words
header_length j = inputs_length (inputs_of j) (box_of j.intervals) 0 _ ∙ simp (length-set, length-replicate)

-- the words in front of the lows, and those behind the highs
abbrev front : JobRead → List ℕ
front j = header.mark_word ∷ length j.code ∷ inputs_of j ∷ j.limit ∷ j.first ∷ []

abbrev back : JobRead → List ℕ
back j = given_of j.memory ∷ replicate (payload_words - header.rest) 0

module _ (j : JobRead) where
  abbrev box : Box
  box = box_of j.intervals

  -- stored before the inputs' words, which stand further on
  abbrev unmixed : List ℕ
  unmixed = front j ++ (replicate most_inputs 0 ++ (replicate most_inputs 0 ++ back j))

  front_at : (k : ℕ) → k < header.lows → get_or (header_words j) k 0 ≡ get_or unmixed k 0
  unfolding header_words
  front_at k l = inputs_before (inputs_of j) box 0 unmixed k l

  module _ (few : length box ≤ most_inputs) where
    few_lows : length (lows box) ≤ most_inputs
    few_lows = rw length-map few

    few_highs : length (highs box) ≤ most_inputs
    few_highs = rw length-map few

    words_are : header_words j ≡ with_ends (front j) (lows box) (highs box) (back j) refl few_lows few_highs
    unfolding header_words
    words_are =
        inputs_rows (inputs_of j) box 0 unmixed (omega arith) ∙ ends_put (front j) (lows box) (highs box) (back j) refl few_lows few_highs

    low_word : (i : ℕ) → i < most_inputs → get_or (header_words j) (header.lows + i) 0 ≡ get_or (lows box) i 0
    low_word i l = rw words_are (low_at_lem (front j) (lows box) (highs box) (back j) refl few_lows few_highs i l)

    high_word : (i : ℕ) → i < most_inputs → get_or (header_words j) (header.highs + i) 0 ≡ get_or (highs box) i 0
    high_word i l = rw words_are (high_at_lem (front j) (lows box) (highs box) (back j) refl few_lows few_highs i l)

    back_word : (i : ℕ) → get_or (header_words j) (header.given + i) 0 ≡ get_or (back j) i 0
    back_word i = rw words_are (back_at (front j) (lows box) (highs box) (back j) refl few_lows few_highs i)

  -- every word is one of 64 bits
  module _ (typed : TypedValues j) where
    front_words : Words (front j)
    front_words zero = omega arith
    front_words (suc zero) = typed.code_count
    front_words (suc (suc zero)) = omega (arith, typed.interval_count)
    front_words (suc (suc (suc zero))) = typed.limit
    front_words (suc (suc (suc (suc zero)))) = typed.first
    front_words (suc (suc (suc (suc (suc k))))) = omega arith

    back_words : Words (back j)
    back_words zero = omega (arith, given_few j.memory, typed.memory_count)
    back_words (suc k) = zeros_typed (payload_words - header.rest) k

    unmixed_words : Words unmixed
    unmixed_words =
        append_below (2 ^ 64) (front j) (replicate most_inputs 0 ++ (replicate most_inputs 0 ++ back j)) front_words
        (append_below (2 ^ 64) (replicate most_inputs 0) (replicate most_inputs 0 ++ back j) (zeros_typed most_inputs)
        (append_below (2 ^ 64) (replicate most_inputs 0) (back j) (zeros_typed most_inputs) back_words))

    pub header_words_lem : Words (header_words j)
    unfolding header_words
    header_words_lem = inputs_below (inputs_of j) j.intervals 0 unmixed typed.intervals unmixed_words

-- in front of any bytes
module _ (j : JobRead) (words : Words (header_words j)) (rest : List ℕ) where
  abbrev bytes : List ℕ
  bytes = block (header_words j) ++ rest

  header_at : (k : ℕ) → k < payload_words → word_at bytes k ≡ get_or (header_words j) k 0
  header_at k l =
      let few : length (header_words j) ≤ payload_words = omega (arith, header_length j) in
      word_left (block (header_words j)) rest k (omega (arith, block_length (header_words j) few)) ∙ block_word (header_words j) few words k l

  pub mark_read : mark bytes ≡ header.mark_word
  mark_read = header_at header.mark (omega arith) ∙ front_at j header.mark (omega arith)

  pub code_read : code_count bytes ≡ length j.code
  code_read = header_at header.code (omega arith) ∙ front_at j header.code (omega arith)

  pub inputs_read : input_count bytes ≡ inputs_of j
  inputs_read = header_at header.inputs (omega arith) ∙ front_at j header.inputs (omega arith)

  pub limit_read : step_limit bytes ≡ j.limit
  limit_read = header_at header.limit (omega arith) ∙ front_at j header.limit (omega arith)

  pub first_read : first_path bytes ≡ j.first
  first_read = header_at header.first (omega arith) ∙ front_at j header.first (omega arith)

  module _ (few : length (box_of j.intervals) ≤ most_inputs) where
    pub low_read : (i : ℕ) → i < most_inputs → low_of bytes i ≡ get_or (lows (box_of j.intervals)) i 0
    low_read i l = header_at (header.lows + i) (omega arith) ∙ low_word j few i l

    pub high_read : (i : ℕ) → i < most_inputs → high_of bytes i ≡ get_or (highs (box_of j.intervals)) i 0
    high_read i l = header_at (header.highs + i) (omega arith) ∙ high_word j few i l

    pub given_read : given_count bytes ≡ given_of j.memory
    given_read = header_at header.given (omega arith) ∙ back_word j few 0

    pub rest_read : (i : ℕ) → header.rest + i < payload_words → word_at bytes (header.rest + i) ≡ 0
    rest_read i l =
        let e : header.rest + i ≡ header.given + (1 + i) = omega arith in
        let z : 1 + i ≡ suc i = omega arith in
        rw e (header_at (header.given + (1 + i)) (omega arith) ∙ back_word j few (1 + i) ∙ rw z (get_d_padded [] (payload_words - header.rest) i))

  -- the intervals
  module _ (even : length j.intervals % 2 ≡ 0) (few : length j.intervals ≤ 2 * most_inputs) where
    pub inputs_few : length (box_of j.intervals) ≤ most_inputs
    inputs_few = omega (arith, pairs j.intervals even)

    interval_read : (k : ℕ) → k < length j.intervals → interval_at bytes k ≡ get_or j.intervals k 0
    unfolding interval_at
    interval_read k l =
        let i = k / 2 in
        let whole : 2 * length (box_of j.intervals) ≡ length j.intervals = pairs j.intervals even in
        let h : i < length (box_of j.intervals) = omega arith in
        let m : i < most_inputs = omega arith in
        by_test (eqb (k % 2) 0)
        (λ e.
        let z : 2 * i + 0 ≡ k = omega (arith, eqb-true (k % 2) 0 e) in
        rw e (low_read inputs_few i m ∙ low_end j.intervals i h ∙ ap (λ (n : ℕ). get_or j.intervals n 0) z))
        (λ e.
        let o = eqb-false (k % 2) 0 e in
        let z : 2 * i + 1 ≡ k = omega arith in
        rw e (high_read inputs_few i m ∙ high_end j.intervals i h ∙ ap (λ (n : ℕ). get_or j.intervals n 0) z))

    pub intervals_read : intervals_in bytes ≡ j.intervals
    unfolding intervals_in
    intervals_read =
        let n : 2 * input_count bytes ≡ length j.intervals = omega (arith, inputs_read) in
        copied_is (interval_at bytes) (2 * input_count bytes) j.intervals n (λ k l. interval_read k (omega arith))
