-- Reading a text byte by byte: what one more byte does to the number, and where the first line ends. Assumes nothing.
use Rattle.std.proofs.Common.{◌≡◌, refl, sym, ap, ◌∙◌, List, [], ◌∷◌, ℕ, suc, ◌+◌, ◌*◌, ◌%◌, ◌^◌, ◌<◌, ◌≤◌, Bool, true, false, cond, length, take, drop, arith, Some, None, nat_eq, nat_lt, ltb, length-take-le, add-one, rules}
use Rattle.std.proofs.lemmas.Option.{cond_some}
use Rattle.std.proofs.lemmas.List.Sums.{prefix_len-le-length}
use Rattle.std.proofs.Math.Seq.{take-length}
use Rattle.std.proofs.Math.ListN.{drop_of_length-le}
use borrow.Author.Tests.{le-ltb}
use Rattle.std.specs.List.{position_or_len, position}
use Rattle.std.proofs.lemmas.List.Recursion.{is_position_or_len}
use Rattle.vectors.specs.Working.Text.{digit_of, number_from, line_from, Number, IsFirstLine}

-- the same number, that ends one place further on
abbrev pub later : Number → Number
later n = record { value = n.value; next = suc n.next }

-- a choice of two values of f is f of the choice
out-of-cond : {A B : Type 0} (f : A → B) (t : Bool) (x y : A) → cond t (f x) (f y) ≡ f (cond t x y)
out-of-cond f true x y = refl
out-of-cond f false x y = refl

number_later : (s : List ℕ) (v i : ℕ) → number_from s v (suc i) ≡ later (number_from s v i)
unfolding number_from
number_later [] v i = refl
number_later (b ∷ bs) v i = rw (number_later bs (v % 2 ^ 60 * 16 + digit_of b) (suc i)) (out-of-cond later (ltb 15 (digit_of b)) (record { value = v; next = suc i }) (number_from bs (v % 2 ^ 60 * 16 + digit_of b) (suc i)))

module _ (b : ℕ) (bs : List ℕ) (v : ℕ) where
  pub number_ends : digit_of b ≡ 16 → number_from (b ∷ bs) v 0 ≡ record { value = v; next = 1 }
  unfolding number_from
  number_ends e = rw e

  number_next : (d : ℕ) → digit_of b ≡ d → d < 16 → number_from (b ∷ bs) v 0 ≡ number_from bs (v % 2 ^ 60 * 16 + d) 1
  unfolding number_from
  number_next d e h = rw (e, le-ltb 15 d (omega (arith, h)))

  pub number_goes : (d : ℕ) → digit_of b ≡ d → d < 16 → number_from (b ∷ bs) v 0 ≡ later (number_from bs (v * 16 % 2 ^ 64 + d) 0)
  number_goes d e h =
      let same : v * 16 % 2 ^ 64 ≡ v % 2 ^ 60 * 16 = omega arith in
      number_next d e h ∙ number_later bs (v % 2 ^ 60 * 16 + d) 0 ∙ ap (λ w. later (number_from bs (w + d) 0)) (sym same)

pub number_stops : (s : List ℕ) (v : ℕ) → length s ≡ 0 → (number_from s v 0).value ≡ v
unfolding number_from
number_stops [] v e = refl
number_stops (b ∷ bs) v e = omega (arith, e)

-- the test that the code finds a line's end by
abbrev pub is_feed : ℕ → Bool
is_feed b = nat_eq b 10

line_later : (s : List ℕ) (i : ℕ) → line_from s (suc i) ≡ suc (line_from s i)
unfolding line_from
line_later [] i = refl
line_later (b ∷ bs) i = rw (line_later bs (suc i)) (out-of-cond suc (is_feed b) i (line_from bs (suc i)))

line_at : (s : List ℕ) → line_from s 0 ≡ position_or_len is_feed s
unfolding line_from
line_at s = is_position_or_len (λ s. line_from s 0) is_feed refl (λ x xs. ap (λ n. cond (is_feed x) 0 n) (line_later xs 0 ∙ omega arith)) s

none_false : (b : Bool) (n : ℕ) → cond b (Some n) None ≡ None → b ≡ false
none_false true n e = cc
none_false false n e = refl

pub line_found : (s : List ℕ) (n : ℕ) → position is_feed s ≡ Some n → IsFirstLine s (take n s) (drop (n + 1) s)
line_found s n e =
    let found = cond_some _ _ _ e in
    let before : n < length s = rw (sym found.1) (search (rules, found.0)) in
    let len : length (take n s) ≡ n = length-take-le n s (omega (arith, before)) in
    record { ends = record { is = len ∙ sym found.1 ∙ sym (line_at s); after = omega arith; within = λ _. omega (arith, len, before) }; is = rw len; behind = rw (len, add-one) }

pub line_last : (s : List ℕ) → position is_feed s ≡ None → IsFirstLine s s []
line_last s e =
    let at = position_or_len is_feed s in
    let none : nat_lt at (length s) ≡ false = none_false _ _ e in
    let past : length s ≤ at = search (rules, none) in
    let within : at ≤ length s = prefix_len-le-length _ s in
    record { ends = record { is = omega (arith, past, within) ∙ sym (line_at s); after = omega arith; within = λ _. omega arith }; is = sym (take-length s); behind = sym (drop_of_length-le s {i = suc (length s)} (omega arith)) }
