-- A line in its columns: a field has 20 of them, so each stands where the paper says, and a line has 72.
-- Assumes nothing.
use mathlib.Core.Path.{◌≡◌, refl, sym, ap, ◌∙◌}
use mathlib.Core.List.{List, [], ◌∷◌, ◌++◌, append_assoc}
use Prim.Native.Nat.{ℕ, suc, ◌+◌, ◌-◌, ◌/◌, ◌%◌, ◌^◌, ◌<◌, ◌≤◌}
use native.Mathlib.Omega.{arith}
use lib.ListN.{length, set, take, drop, length-append, length-replicate, replicate-append-replicate, length-set}
use lib.Seq.{take_at, drop_at, take-append-add, drop-append-add, drop-cons, get_or-set_same, take-set-le, drop-set-lt}
use Rattle.words.specs.Word.{max_word}
use Rattle.blocks.specs.Working.Writing.{put}
use Rattle.blocks.proofs.Puts.{put_none}
use Rattle.printing.specs.Printed.{ascii, digit, digits_in, digits}
use Rattle.printing.proofs.Digits.{shown, digits_show, digits_length, digits_more, digits_one, one_digit, tenth_digits}
use Rattle.sheets.specs.Line.{space, spaces, field_columns, line_columns, second_column, third_column, sheet_field, up_to, columns, sheet_line, line_bytes}
use Rattle.sheets.specs.Printed.{InColumns}

pub field_length : (n : ℕ) → length (sheet_field n) ≡ field_columns
unfolding sheet_field
field_length n = rw (length-append, length-replicate) (omega (arith, digits_length n))

skip : (xs ys : List ℕ) (m n : ℕ) → length xs ≡ m → drop (m + n) (xs ++ ys) ≡ drop n ys
skip xs ys m n e = rw (← e) (drop-append-add xs ys n)

-- behind the spaces the number stands whole: no field is cut
pub field_shows : (n : ℕ) → n < 2 ^ 64 → shown 0 (drop (field_columns - length (digits n)) (sheet_field n)) ≡ n
unfolding sheet_field
field_shows n h =
    let k = field_columns - length (digits n) in
    rw (drop_at (spaces k) (digits n) k (length-replicate k space)) (digits_show n h)

-- MAX takes all its columns
pub max_fits : sheet_field max_word ≡ digits max_word
unfolding sheet_field digits digits_in
max_fits = refl

-- Digits written from the last one back.

-- one more behind what is put
put_more : (l xs : List ℕ) (i d : ℕ) → i + length xs < length l → put (set l (i + length xs) d) i xs ≡ put l i (xs ++ (d ∷ []))
unfolding put
put_more l xs i d h =
    let n = i + length xs in
    let m : i + (length xs + 1) ≡ suc n = omega arith in
    let behind : drop n (set l n d) ≡ d ∷ drop (suc n) l =
    drop-cons (set l n d) n 0 (rw length-set h) ∙ rw (get_or-set_same l n d 0 h, drop-set-lt (suc n) l n d (omega arith)) in
    rw (take-set-le i l n d (omega arith), behind, length-append, m) (simp append_assoc)

module _ (l : List ℕ) (k n : ℕ) (room : length (digits n) ≤ k) (inside : k ≤ length l) where
  pub digit_turn : 10 ≤ n → n < 2 ^ 64
      → put (set l (k - 1) (digit (n % 10))) (k - 1 - length (digits (n / 10))) (digits (n / 10)) ≡ put l (k - length (digits n)) (digits n)
  digit_turn h w =
      let e = tenth_digits n h w in
      let i = k - length (digits n) in
      let place : k - 1 - length (digits (n / 10)) ≡ i = omega arith in
      let last : k - 1 ≡ i + length (digits (n / 10)) = omega arith in
      rw (place, last) (put_more l (digits (n / 10)) i (digit (n % 10)) (omega arith) ∙ ap (put l i) (sym (digits_more n h w)))

  pub digit_done : n < 10 → set l (k - 1) (digit n) ≡ put l (k - length (digits n)) (digits n)
  digit_done h =
      let e = one_digit n h in
      let place : k - length (digits n) ≡ k - 1 = omega arith in
      let z : k - 1 + 0 ≡ k - 1 = omega arith in
      let one : put (set l (k - 1) (digit n)) (k - 1) [] ≡ put l (k - 1) (digit n ∷ []) = rw z at (put_more l [] (k - 1) (digit n) (omega arith)) in
      rw (place, digits_one n h) (sym (put_none (set l (k - 1) (digit n)) (k - 1)) ∙ one)

up_to_lem : (column k : ℕ) (text : List ℕ) → column - 1 ≡ length text + k → up_to column text ≡ text ++ spaces k
up_to_lem column k text e = let z : column - 1 - length text ≡ k = omega arith in rw z

module _ (a b c : ℕ) where
  -- what follows the first field, and the second
  abbrev behind_second : List ℕ
  behind_second = spaces 4 ++ (sheet_field c ++ spaces 5)

  abbrev behind_first : List ℕ
  behind_first = spaces 3 ++ (sheet_field b ++ behind_second)

  columns_are : columns a b c ≡ sheet_field a ++ behind_first
  unfolding columns
  columns_are =
      let one = sheet_field a ++ spaces 3 in
      let two = (one ++ sheet_field b) ++ spaces 4 in
      let length_one : length one ≡ 23 = rw (length-append, field_length a) in
      let length_two : length two ≡ 47 = rw (length-append, length-append, length_one, field_length b) in
      rw (
        up_to_lem second_column 3 (sheet_field a) (rw (field_length a)),
        up_to_lem third_column 4 (one ++ sheet_field b) (rw (length-append, length_one, field_length b)),
        up_to_lem (line_columns + 1) 5 (two ++ sheet_field c) (rw (length-append, length_two, field_length c)),
      )
      (simp append_assoc)

  -- with the spaces written out
  line_is : sheet_line a b c ≡ sheet_field a ++ (ascii "   " ++ (sheet_field b ++ (ascii "    " ++ (sheet_field c ++ ascii "     \n"))))
  unfolding sheet_line
  line_is = rw columns_are (simp append_assoc)

  pub line_length : length (sheet_line a b c) ≡ line_bytes
  line_length = rw line_is (simp (length-append, field_length) (omega arith))

  to_first : (n : ℕ) → drop (20 + n) (sheet_field a ++ behind_first) ≡ drop n behind_first
  to_first n = skip (sheet_field a) behind_first 20 n (field_length a)

  to_second : (n : ℕ) → drop (23 + n) (sheet_field a ++ behind_first) ≡ drop n (sheet_field b ++ behind_second)
  to_second n =
      let z : 23 + n ≡ 20 + (3 + n) = omega arith in
      rw z (to_first (3 + n) ∙ skip (spaces 3) (sheet_field b ++ behind_second) 3 n refl)

  to_third : (n : ℕ) → drop (47 + n) (sheet_field a ++ behind_first) ≡ drop n (sheet_field c ++ spaces 5)
  to_third n =
      let z : 47 + n ≡ 23 + (20 + (4 + n)) = omega arith in
      rw z (
      to_second (20 + (4 + n))
      ∙ skip (sheet_field b) behind_second 20 (4 + n) (field_length b)
      ∙ skip (spaces 4) (sheet_field c ++ spaces 5) 4 n refl
      )

  pub in_columns : InColumns a b c (columns a b c)
  in_columns =
      rw columns_are record {
        size = simp (length-append, field_length) (omega arith);
        first = take_at (sheet_field a) behind_first 20 (field_length a);
        behind_first = ap (take 3) (to_first 0);
        second = ap (take 20) (to_second 0) ∙ take_at (sheet_field b) behind_second 20 (field_length b);
        behind_second = ap (take 4) (to_second 20 ∙ drop_at (sheet_field b) behind_second 20 (field_length b));
        third = ap (take 20) (to_third 0) ∙ take_at (sheet_field c) (spaces 5) 20 (field_length c);
        behind_third = ap (take 5) (to_third 20 ∙ drop_at (sheet_field c) (spaces 5) 20 (field_length c));
      }

-- The fields set into a line of spaces.

split : (i j : ℕ) → spaces (i + j) ≡ spaces i ++ spaces j
split i j = sym (replicate-append-replicate i j space)

-- behind m spaces more, with k spaces left behind it
field_set : (front tail : List ℕ) (f m k n : ℕ) → length front ≡ f
    → put (front ++ (spaces (m + (field_columns + k)) ++ tail)) (f + m + field_columns - length (digits n)) (digits n)
    ≡ (front ++ (spaces m ++ sheet_field n)) ++ (spaces k ++ tail)
unfolding put sheet_field
field_set front tail f m k n e =
    let d = length (digits n) in
    let j = field_columns - d in
    let few = digits_length n in
    let all = spaces (m + (field_columns + k)) in
    let place : f + m + field_columns - d ≡ length front + (m + j) = omega arith in
    let past : length front + (m + j) + d ≡ length front + (m + field_columns) = omega arith in
    let before : take (m + j) (all ++ tail) ≡ spaces m ++ spaces j =
    let z : m + (field_columns + k) ≡ m + j + (d + k) = omega arith in
    rw (z, split (m + j) (d + k), append_assoc) (take_at (spaces (m + j)) (spaces (d + k) ++ tail) (m + j) (length-replicate (m + j) space)) ∙ split m j in
    let behind : drop (m + field_columns) (all ++ tail) ≡ spaces k ++ tail =
    let z : m + (field_columns + k) ≡ m + field_columns + k = omega arith in
    rw (z, split (m + field_columns) k, append_assoc) (drop_at (spaces (m + field_columns)) (spaces k ++ tail) (m + field_columns) (length-replicate (m + field_columns) space)) in
    rw (place, past, take-append-add front (all ++ tail) (m + j), drop-append-add front (all ++ tail) (m + field_columns), before, behind)
    (simp append_assoc)

-- the line as the code sets it
pub line_set : (a b c : ℕ) {t u v : List ℕ} → t ≡ put (spaces line_columns ++ ascii "\n") (20 - length (digits a)) (digits a)
    → u ≡ put t (43 - length (digits b)) (digits b) → v ≡ put u (67 - length (digits c)) (digits c) → v ≡ sheet_line a b c
line_set a b c e f g =
    let end = ascii "\n" in
    let one = e ∙ field_set [] end 0 0 52 a refl in
    let two = rw one at f ∙ field_set (sheet_field a) end 20 3 29 b (field_length a) in
    let front = sheet_field a ++ (spaces 3 ++ sheet_field b) in
    let three = rw two at g ∙ field_set front end 43 4 5 c (rw (length-append, length-append, field_length a, field_length b)) in
    three ∙ rw (line_is a b c) (simp append_assoc)
