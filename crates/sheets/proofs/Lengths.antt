-- The text has the length that was known before, and where that length is no word.
-- Assumes nothing.
use mathlib.Core.Path.{◌≡◌, ◌∙◌}
use mathlib.Core.Logic.{◌↔◌}
use mathlib.Core.Bool.{◌&&◌}
use mathlib.Core.List.{List, [], ◌∷◌, flat_map}
use Prim.Native.Nat.{ℕ, ◌+◌, ◌*◌, ◌/◌, ◌^◌, ◌<◌, ◌≤◌, min}
use native.Mathlib.Nat.{mul_assoc, mul-le-mul_right, div-le_self, le-div_iff_mul-le, div-lt_iff_lt-mul}
use native.Mathlib.Omega.{arith}
use borrow.Author.Tests.{lt-leb, ltb-true, ltb-false}
use lib.Dec.{leb, ltb}
use lib.ListN.{length, length-append, length-map}
use Rattle.boxes.specs.Boxes.{Box, from}
use Rattle.boxes.proofs.Lists.{by_test, length_from}
use Rattle.words.specs.Word.{max_word}
use Rattle.blocks.specs.Record.{most_inputs, record_bytes}
use Rattle.blocks.specs.Report.{records_in, record_at}
use Rattle.blocks.specs.Said.{input_in, said_at}
use Rattle.printing.proofs.Outputs.{flat_map_lem}
use Rattle.sheets.specs.Line.{line_bytes}
use Rattle.sheets.specs.Sheet.{input_lines, path_lines, sheet_text, sheet_length, sheet_bytes}
use Rattle.sheets.proofs.Columns.{line_length}
use Rattle.sheets.proofs.Told.{lines_at}

-- parts of one length
parts_length : {A : Type 0} (f : A → List ℕ) (k : ℕ) → ((x : A) → length (f x) ≡ k) → (xs : List A) → length (flat_map f xs) ≡ k * length xs
unfolding flat_map
parts_length f k h [] = omega arith
parts_length f k h (x ∷ xs) = rw (length-append, h x, parts_length f k h xs) (omega arith)

inputs_length : (i : ℕ) (b : Box) → length (input_lines i b) ≡ line_bytes * length b
unfolding input_lines
inputs_length i [] = omega arith
inputs_length i (v ∷ b) = rw (length-append, line_length, inputs_length (i + 1) b) (omega arith)

record_length : (n : ℕ) (report : List ℕ) (k : ℕ) → length (lines_at n report k) ≡ line_bytes * (1 + n)
unfolding path_lines
record_length n report k =
    let inputs : length (said_at n report k).box ≡ n = length-map (from 0 n) (input_in n (record_at n report k)) ∙ length_from n 0 in
    rw (length-append, line_length, inputs_length 0 (said_at n report k).box, inputs) (omega arith)

-- known before a byte is written
pub text_length : (n : ℕ) (report : List ℕ) → length (sheet_text n report) ≡ sheet_length n (length report)
text_length n report =
    let count = records_in n report in
    let each = parts_length (lines_at n report) (line_bytes * (1 + n)) (record_length n report) (from 0 count) in
    rw (flat_map_lem path_lines (said_at n report) (from 0 count), each, length_from count 0) (mul_assoc line_bytes (1 + n) count)

-- The length that `sheet_bytes` works out, from the size of a record.

module _ (n bytes : ℕ) {size : ℕ} (e : size ≡ record_bytes n) where
  abbrev count : ℕ
  count = bytes / size

  pub length_none : count ≡ 0 → 0 ≡ sheet_bytes n bytes
  length_none h = let z : bytes / record_bytes n ≡ 0 = rw e at h in rw z (omega arith)

  module _ (some : 1 ≤ count) where
    -- as many lines as stand in a word
    pub length_word : n < max_word / line_bytes / count → line_bytes * ((1 + n) * count) ≤ max_word
    length_word h =
        let l : (1 + n) * count ≤ max_word / line_bytes = (le-div_iff_mul-le some).0 (omega arith) in
        omega arith

    pub inputs_word : n < max_word / line_bytes / count → 1 + n ≤ max_word
    inputs_word h = omega (arith, div-le_self (max_word / line_bytes) count)

    pub length_is : n < max_word / line_bytes / count → line_bytes * ((1 + n) * count) ≡ sheet_bytes n bytes
    length_is h =
        let l = length_word h in
        let z : sheet_length n bytes ≡ line_bytes * ((1 + n) * count) = rw e in
        omega arith

    pub length_more : max_word / line_bytes / count ≤ n → max_word ≡ sheet_bytes n bytes
    length_more h =
        let l : max_word / line_bytes < (1 + n) * count = (div-lt_iff_lt-mul some).0 (omega arith) in
        let z : sheet_length n bytes ≡ line_bytes * ((1 + n) * count) = rw e in
        omega arith

-- and the question that is asked with it: MAX is no number of whole lines
pub fits_read : (lines : ℕ) {bytes room : ℕ} → bytes ≡ min (line_bytes * lines) max_word → room < 2 ^ 64
    → leb (line_bytes * lines) room ≡ ltb bytes max_word && leb bytes room
fits_read lines {bytes} {room} e h =
    by_test (ltb bytes max_word)
    (λ y. let l = ltb-true bytes max_word y in let z : line_bytes * lines ≡ bytes = omega arith in rw (y, z))
    (λ y. let l = ltb-false bytes max_word y in rw (y, lt-leb (line_bytes * lines) room (omega arith)))

-- What a caller learns from it.

-- of a report that can be lent and has no more inputs than fit, the text's length
pub bytes_known : (n : ℕ) (report : List ℕ) → n ≤ most_inputs → length report < 2 ^ 64 → sheet_bytes n (length report) ≡ length (sheet_text n report)
bytes_known n report few lent =
    let count = length report / record_bytes n in
    let l : (1 + n) * count ≤ (1 + most_inputs) * count = mul-le-mul_right count (omega arith) in
    omega (arith, text_length n report)

-- MAX exactly if the length is no word
pub bytes_max : (n bytes : ℕ) → (sheet_bytes n bytes ≡ max_word) ↔ (max_word < sheet_length n bytes)
bytes_max n bytes = (λ e. omega arith, λ h. omega arith)
