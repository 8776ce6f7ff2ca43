-- How a job comes to be written, part by part.
-- Assumes nothing.
use mathlib.Core.Path.{◌≡◌, sym, ap, ◌∙◌}
use mathlib.Core.List.{List, ◌++◌, append_assoc}
use mathlib.Core.Option.{none}
use Prim.Native.Nat.{ℕ, ◌+◌, ◌*◌, ◌≤◌}
use native.Mathlib.Nat.{zero-add}
use native.Mathlib.Omega.{arith}
use lib.ListN.{length, take, drop, length-append}
use lib.Seq.{take_at, take-length}
use Rattle.listing.proofs.First.{none_applies}
use Rattle.blocks.specs.Block.{block_bytes, block}
use Rattle.blocks.specs.Working.Writing.{put}
use Rattle.blocks.proofs.Bytes.{block_length}
use Rattle.blocks.proofs.Puts.{put_put}
use Rattle.jobs.specs.Job.{JobRead, code_payload, blocks_for, first_code}
use Rattle.writing.specs.Form.{given_of, inputs_of, header_words, code_pairs, given_words, part_blocks, job_form, form_length}
use Rattle.writing.specs.Write.{values_of, value_questions}
use Rattle.writing.specs.Working.Writing.{values_refusal, Room}
use Rattle.writing.specs.Written.{Passes}
use Rattle.writing.proofs.Given.{given_few, given_length, given_again}
use Rattle.writing.proofs.Halves.{pairs_count}
use Rattle.writing.proofs.Header.{header_length}
use Rattle.writing.proofs.Parts.{part_length}
use Rattle.writing.proofs.Read.{form_length_lem, code_size, pairs_size, memory_size}

-- of the words given all are given
pub given_all : (given : List ℕ) → given_of given ≡ length given → given_words given ≡ given
given_all given last = ap (λ (n : ℕ). take n given) last ∙ take-length given

-- the pairs of the code, at the front of an array
module _ (code zeros : List ℕ) {array : List ℕ} {n : ℕ} (count : n ≡ code_payload (length code)) (e : array ≡ code_pairs code ++ zeros) where
  pub pairs_front : take n array ≡ code_pairs code
  pairs_front = rw e (take_at (code_pairs code) zeros n (pairs_count code ∙ sym count))

  pub pairs_front_length : n ≡ length (take n array)
  pairs_front_length = rw pairs_front (count ∙ sym (pairs_count code))

-- three parts, one behind the other
module _ (j : JobRead) (l : List ℕ) (room : form_length j ≤ length l) where
  abbrev code_part : List ℕ
  code_part = part_blocks (code_pairs j.code)

  pub job_put : {words pairs given a b c : List ℕ} {at n : ℕ} → at ≡ first_code (inputs_of j) → n ≡ blocks_for (code_payload (length j.code))
      → words ≡ header_words j → a ≡ put l 0 (block words)
      → pairs ≡ code_pairs j.code → b ≡ put a (block_bytes * at) (part_blocks pairs)
      → given ≡ given_words j.memory → c ≡ put b (block_bytes * (at + n)) (part_blocks given)
      → c ≡ put l 0 (job_form j)
  unfolding job_form
  job_put {b = b} {at = at} {n = n} begin count words first pairs second given third =
      let head = block (header_words j) in
      let rest = part_blocks (given_words j.memory) in
      let size : length head ≡ block_bytes = block_length (header_words j) (omega (arith, header_length j)) in
      let code_size : length code_part ≡ block_bytes * n =
      part_length (code_pairs j.code) ∙ ap (λ (x : ℕ). block_bytes * blocks_for x) (pairs_count j.code) ∙ ap (λ (x : ℕ). block_bytes * x) (sym count) in
      let both : length (head ++ code_part) ≡ block_bytes * (at + n) = omega (arith, length-append head code_part) in
      let at_code : block_bytes * at ≡ 0 + length head = omega arith in
      let at_rest : block_bytes * (at + n) ≡ 0 + length (head ++ code_part) = omega arith in
      let two : b ≡ put l 0 (head ++ code_part) = second ∙ rw (first, words, pairs, at_code) (put_put l 0 head (omega arith) code_part) in
      third ∙ rw (two, given, at_rest) (put_put l 0 (head ++ code_part) (omega arith) rest ∙ ap (put l 0) (append_assoc head code_part rest))

-- The whole job at the start of a space, written with the memory words given alone.
module _ (code memory v : List ℕ) (limit first : ℕ) where
  form_given : job_form (values_of code (given_words memory) v limit first) ≡ job_form (values_of code memory v limit first)
  unfolding job_form header_words
  form_given =
      let again = given_again memory in
      let words : given_words (given_words memory) ≡ given_words memory = given_all (given_words memory) (again ∙ sym (given_length memory)) in
      rw (words, again)

  at_start : (xs l : List ℕ) → put l 0 xs ≡ xs ++ drop (length xs) l
  unfolding put
  at_start xs l = rw zero-add

  pub job_at_start : (l : List ℕ) {n : ℕ} {l' : List ℕ} → n ≡ given_of memory → l' ≡ put l 0 (job_form (values_of code (take n memory) v limit first)) →
      let j = values_of code memory v limit first in
      l' ≡ job_form j ++ drop (form_length j) l
  job_at_start l count e =
      let j = values_of code memory v limit first in
      e ∙ rw (count, form_given) (at_start (job_form j) l ∙ ap (λ (k : ℕ). job_form j ++ drop k l) (form_length_lem j))

-- values that no question refuses, in a space that is long enough
module _ (j : JobRead) (e : values_refusal j ≡ none) where
  pub passed_values : Passes j
  passed_values = (none_applies (value_questions j)).0 e

  pub has_room : (space : List ℕ) → form_length j ≤ length space → Room j.code (given_words j.memory) j.intervals space
  has_room space room =
      record {
        few_words = (code_size j passed_values).1;
        few_inputs = (pairs_size j passed_values).1;
        few_given = omega (arith, given_length j.memory, given_few j.memory, memory_size j passed_values);
        last = given_again j.memory ∙ sym (given_length j.memory);
        room = rw (given_length j.memory) room;
      }
