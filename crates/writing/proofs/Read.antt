-- What the reader gets back from what was written.
-- Assumes nothing.
use mathlib.Core.Path.{◌≡◌, refl, sym, ap, ◌∙◌}
use mathlib.Core.Bool.{true}
use mathlib.Core.Option.{none}
use mathlib.Core.List.Memᴰ.{head as here}
use mathlib.Core.List.Memᴰ.{tail as there}
use mathlib.Core.List.{List, [], ◌++◌, append-nil, append_assoc, map}
use Prim.Native.Nat.{ℕ, suc, ◌+◌, ◌-◌, ◌*◌, ◌/◌, ◌%◌, ◌^◌, ◌≤◌, ◌<◌}
use native.Mathlib.Omega.{arith}
use borrow.Author.Tests.{leb-true, eqb-true, eq-eqb, le-leb, not-false}
use lib.Dec.{leb, eqb}
use lib.ListN.{length, get_or, length-append, length-map, get_or-eq_default}
use lib.Seq.{get_or-take}
use Rattle.boxes.specs.Boxes.{from, lows, highs}
use Rattle.riscu.specs.Limits.{code_words, memory_words}
use Rattle.listing.specs.First.{first}
use Rattle.listing.proofs.First.{passes, none_applies, first_goes}
use Rattle.blocks.specs.Block.{block_words, block_bytes, payload_words, word_at, block, block_count, each, checks_agree}
use Rattle.blocks.specs.Record.{most_inputs}
use Rattle.blocks.proofs.Bytes.{block_length}
use Rattle.blocks.proofs.Checks.{checks_block}
use Rattle.blocks.proofs.Each.{each_all}
use Rattle.blocks.proofs.Reading.{Words}
use Rattle.calls.specs.Call.{box_of}
use Rattle.calls.specs.declared.Refusal.TheVariants.{Blocks, Check, Form}
use Rattle.calls.proofs.Asked.{yes_on}
use Rattle.calls.proofs.Pairs.{pairs_length}
use Rattle.jobs.specs.Header as header
use Rattle.jobs.specs.Job.{JobRead, code_count, input_count, given_count, first_code, first_memory, code_payload, blocks_for, blocks_needed, payload_at, code_at, memory_at, code_in, memory_in, job_read, half, most_blocks, zero_word, zero_half, zero_words, zero_halves, unused_zero, well_formed, whole_blocks, header_questions, job_questions, job_refusal_of}
use Rattle.jobs.proofs.Asked.{both}
use Rattle.jobs.proofs.Copied.{copied_is}
use Rattle.writing.specs.Form.{given_of, inputs_of, header_words, code_pairs, given_words, part_blocks, job_form, form_length}
use Rattle.writing.specs.Write.{value_questions}
use Rattle.writing.specs.Written.{TypedValues, Passes, NoTrailingZero}
use Rattle.writing.proofs.Alike.{all_alike}
use Rattle.writing.proofs.Halves.{pairs_count, pairs_words, half_at}
use Rattle.writing.proofs.Given.{given_few, given_length, given_last, given_whole}
use Rattle.writing.proofs.Header.{header_length, header_words_lem, mark_read, code_read, inputs_read, limit_read, first_read, low_read, high_read, given_read, rest_read, inputs_few, intervals_read}
use Rattle.writing.proofs.Stores.{take_below}
use Rattle.writing.proofs.Parts.{part_length, payload_part, checks_from}

-- the form's length is known from its values
pub form_length_lem : (j : JobRead) → length (job_form j) ≡ form_length j
unfolding job_form
form_length_lem j =
    let few : length (header_words j) ≤ payload_words = omega (arith, header_length j) in
    omega (
      arith,
      length-append (block (header_words j)) (part_blocks (code_pairs j.code) ++ part_blocks (given_words j.memory)),
      length-append (part_blocks (code_pairs j.code)) (part_blocks (given_words j.memory)),
      block_length (header_words j) few,
      part_length (code_pairs j.code) ∙ ap (λ (n : ℕ). block_bytes * blocks_for n) (pairs_count j.code),
      part_length (given_words j.memory) ∙ ap (λ (n : ℕ). block_bytes * blocks_for n) (given_length j.memory),
    )

-- a word of the header that is counted as one of its payload
header_payload : (bytes : List ℕ) (i : ℕ) → i < payload_words → payload_at bytes 0 i ≡ word_at bytes i
unfolding payload_at
header_payload bytes i l = let e : (0 + i / payload_words) * block_words + i % payload_words ≡ i = omega arith in rw e

-- what the questions say of the values
module _ (j : JobRead) (passed : Passes j) where
  pub code_size : (1 ≤ length j.code) × (length j.code ≤ code_words)
  unfolding value_questions
  code_size =
      let (a, b) = both (leb 1 (length j.code)) _ (not-false _ (passed _ (here refl))) in
      (leb-true 1 (length j.code) a, leb-true (length j.code) code_words b)

  pub pairs_size : (length j.intervals % 2 ≡ 0) × (length j.intervals ≤ 2 * most_inputs)
  unfolding value_questions
  pairs_size =
      let (a, b) = both (eqb (length j.intervals % 2) 0) _ (not-false _ (passed _ (there (here refl)))) in
      let even : length j.intervals % 2 ≡ 0 = eqb-true (length j.intervals % 2) 0 a in
      (even, omega (arith, leb-true (length j.intervals / 2) most_inputs b))

  pub memory_size : length j.memory ≡ memory_words
  unfolding value_questions
  memory_size = eqb-true (length j.memory) memory_words (not-false _ (passed _ (there (there (there (there (here refl)))))))

  few_blocks : blocks_needed (inputs_of j) (length j.code) (given_of j.memory) ≤ most_blocks
  few_blocks = omega (arith, code_size.1, given_few j.memory, memory_size)

  pub form_most : form_length j ≤ most_blocks * block_bytes
  form_most = omega (arith, few_blocks)

module _ (j : JobRead) (typed : TypedValues j) (passed : Passes j) where
  words : Words (header_words j)
  words = header_words_lem j typed

  few : length (box_of j.intervals) ≤ most_inputs
  few = inputs_few j words [] (pairs_size j passed).0 (pairs_size j passed).1

  -- the parts of the form
  abbrev head : List ℕ
  head = block (header_words j)

  abbrev code_part : List ℕ
  code_part = part_blocks (code_pairs j.code)

  abbrev memory_part : List ℕ
  memory_part = part_blocks (given_words j.memory)

  abbrev bytes : List ℕ
  bytes = head ++ (code_part ++ memory_part)

  -- what stands behind the header
  abbrev rest : List ℕ
  rest = code_part ++ memory_part

  head_length : length head ≡ block_bytes
  head_length = block_length (header_words j) (omega (arith, header_length j))

  code_count_lem : code_count bytes ≡ length j.code
  code_count_lem = code_read j words rest

  given_count_lem : given_count bytes ≡ given_of j.memory
  given_count_lem = given_read j words rest few

  -- the code
  code_at_lem : (k : ℕ) → k < 2 * payload_words * blocks_for (code_payload (length j.code)) → code_at bytes k ≡ get_or j.code k 0
  unfolding code_at
  code_at_lem k l =
      let ws = code_pairs j.code in
      let n = blocks_for (code_payload (length j.code)) in
      let inside : k / 2 < payload_words * n = omega arith in
      let room : k / 2 < payload_words * blocks_for (length ws) = rw (pairs_count j.code) inside in
      ap (half k) (payload_part ws (pairs_words j.code typed.code) head memory_part (first_code (input_count bytes)) (k / 2) (omega (arith, head_length)) room)
      ∙ half_at j.code typed.code k

  code_in_lem : code_in bytes ≡ j.code
  unfolding code_in
  code_in_lem = copied_is (code_at bytes) (code_count bytes) j.code code_count_lem (λ k l. code_at_lem k (omega (arith, code_count_lem)))

  -- the memory words given
  given_words_lem : Words (given_words j.memory)
  given_words_lem = take_below (2 ^ 64) (given_of j.memory) j.memory (omega arith) typed.memory

  memory_at_lem : (i : ℕ) → i < payload_words * blocks_for (given_of j.memory) → memory_at bytes i ≡ get_or (given_words j.memory) i 0
  memory_at_lem i l =
      let ws = given_words j.memory in
      let n = blocks_for (code_payload (length j.code)) in
      let room : i < payload_words * blocks_for (length ws) = rw (given_length j.memory) l in
      let size : length (head ++ code_part) ≡ (first_code (input_count bytes) + n) * block_bytes =
      omega (arith, length-append head code_part, head_length, part_length (code_pairs j.code) ∙ ap (λ (x : ℕ). block_bytes * blocks_for x) (pairs_count j.code)) in
      rw code_count_lem
      (rw (append-nil, append_assoc) at (payload_part ws given_words_lem (head ++ code_part) [] (first_code (input_count bytes) + n) i size room))

  memory_in_lem : memory_in bytes ≡ j.memory
  unfolding memory_in
  memory_in_lem =
      let size : given_count bytes ≡ length (given_words j.memory) = given_count_lem ∙ sym (given_length j.memory) in
      let same : map (memory_at bytes) (from 0 (given_count bytes)) ≡ given_words j.memory =
      copied_is (memory_at bytes) (given_count bytes) (given_words j.memory) size (λ k l. memory_at_lem k (omega (arith, given_count_lem))) in
      rw (same, given_count_lem, ← memory_size j passed) (given_whole j.memory)

  pub form_read : job_read (job_form j) ≡ j
  unfolding job_read job_form
  form_read =
      let i = intervals_read j words rest (pairs_size j passed).0 (pairs_size j passed).1 in
      rw (code_in_lem, i, limit_read j words rest, first_read j words rest, memory_in_lem)

  -- how many memory words the form gives, and that the last of them is not 0
  pub form_gives : given_count (job_form j) ≡ given_of j.memory
  unfolding job_form
  form_gives = given_count_lem

  pub form_few : given_count (job_form j) ≤ memory_words
  form_few = omega (arith, form_gives, given_few j.memory, memory_size j passed)

  pub form_last : NoTrailingZero (job_form j)
  unfolding job_form
  form_last n e z =
      let m : given_of j.memory ≡ suc n = sym given_count_lem ∙ e in
      given_last j.memory n m
      (sym (get_or-take (given_of j.memory) j.memory n 0 (omega arith)) ∙ sym (memory_at_lem n (omega arith)) ∙ z)

  -- every unused word and half is 0
  end_unused : (place : ℕ) (ends : List ℕ) → place + most_inputs ≤ payload_words → length ends ≡ input_count bytes
      → ((i : ℕ) → i < most_inputs → word_at bytes (place + i) ≡ get_or ends i 0)
      → (i : ℕ) → place + input_count bytes ≤ i → i < place + most_inputs → zero_word bytes 0 i ≡ true
  end_unused place ends inside size read i l m =
      let k = i - place in
      let e : place + k ≡ i = omega arith in
      eq-eqb (payload_at bytes 0 i) 0
      (header_payload bytes i (omega arith)
      ∙ ap (word_at bytes) (sym e)
      ∙ read k (omega arith)
      ∙ get_or-eq_default ends 0 {n = k} (omega arith))

  rest_unused : (i : ℕ) → header.rest ≤ i → i < payload_words → zero_word bytes 0 i ≡ true
  rest_unused i l m =
      let e : header.rest + (i - header.rest) ≡ i = omega arith in
      eq-eqb _ _ (header_payload bytes i m ∙ ap (word_at bytes) (sym e) ∙ rest_read j words rest few (i - header.rest) (omega arith))

  half_unused : (k : ℕ) → code_count bytes ≤ k → k < 2 * payload_words * blocks_for (code_payload (code_count bytes)) → zero_half bytes k ≡ true
  half_unused k l m =
      eq-eqb _ _ (code_at_lem k (rw code_count_lem at m) ∙ get_or-eq_default j.code 0 {n = k} (omega (arith, code_count_lem)))

  word_unused : (i : ℕ) → given_count bytes ≤ i → i < payload_words * blocks_for (given_count bytes) → zero_word bytes (first_memory bytes) i ≡ true
  word_unused i l m =
      eq-eqb _ _ (memory_at_lem i (rw given_count_lem at m) ∙ get_or-eq_default (given_words j.memory) 0 {n = i} (omega (arith, given_count_lem, given_length j.memory)))

  all_unused : unused_zero bytes ≡ true
  unfolding unused_zero zero_words zero_halves
  all_unused =
      let n = input_count bytes in
      let box = box_of j.intervals in
      let count : length box ≡ n = pairs_length j.intervals ∙ sym (inputs_read j words rest) in
      let low_count : length (lows box) ≡ n = length-map box _ ∙ count in
      let high_count : length (highs box) ≡ n = length-map box _ ∙ count in
      let halves = 2 * payload_words * blocks_for (code_payload (code_count bytes)) in
      let given = payload_words * blocks_for (given_count bytes) in
      rw (
        each_all (zero_word bytes 0) (header.highs - (header.lows + n)) (header.lows + n)
            (λ i l m. end_unused header.lows (lows box) (omega arith) low_count (low_read j words rest few) i l (omega arith)),
        each_all (zero_word bytes 0) (header.given - (header.highs + n)) (header.highs + n)
            (λ i l m. end_unused header.highs (highs box) (omega arith) high_count (high_read j words rest few) i l (omega arith)),
        each_all (zero_word bytes 0) (payload_words - header.rest) header.rest (λ i l m. rest_unused i l (omega arith)),
        each_all (zero_half bytes) (halves - code_count bytes) (code_count bytes) (λ k l m. half_unused k l (omega arith)),
        each_all (zero_word bytes (first_memory bytes)) (given - given_count bytes) (given_count bytes) (λ i l m. word_unused i l (omega arith)),
      )

  -- The questions on the form.

  blocks_count : block_count bytes ≡ blocks_needed (inputs_of j) (length j.code) (given_of j.memory)
  blocks_count = unfold job_form in omega (arith, form_length_lem j)

  whole_blocks_lem : whole_blocks bytes ≡ true
  unfolding whole_blocks
  whole_blocks_lem =
      let n = blocks_needed (inputs_of j) (length j.code) (given_of j.memory) in
      let size : length bytes ≡ block_bytes * n = unfold job_form in form_length_lem j in
      let even : length bytes % block_bytes ≡ 0 = omega arith in
      rw (eq-eqb (length bytes % block_bytes) 0 even, blocks_count, le-leb 1 n (omega arith)) (le-leb n most_blocks (few_blocks j passed))

  checks : checks_agree bytes ≡ true
  unfolding part_blocks checks_agree each
  checks =
      let pairs = code_pairs j.code in
      let given = given_words j.memory in
      checks_block (header_words j) rest (omega (arith, header_length j)) words
      ∙ checks_from pairs (pairs_words j.code typed.code) (blocks_for (length pairs)) 0 memory_part
      ∙ ap checks_agree (sym (append-nil memory_part))
      ∙ checks_from given given_words_lem (blocks_for (length given)) 0 []

  form : well_formed bytes ≡ true
  unfolding well_formed
  form =
      rw (mark_read j words rest, code_count_lem, given_count_lem, eq-eqb _ _ blocks_count) all_unused

  pub form_accepted : job_refusal_of (job_form j) ≡ none
  unfolding job_form job_questions
  form_accepted =
      let header : first (header_questions bytes) ≡ none =
      all_alike j typed (pairs_size j passed).0 (memory_size j passed) rest ∙ (none_applies (value_questions j)).1 passed in
      sym
      (passes
      ∙ yes_on Form [] form
      ∙ sym (first_goes (header_questions bytes) _ header)
      ∙ yes_on Check _ checks
      ∙ yes_on Blocks _ whole_blocks_lem)
