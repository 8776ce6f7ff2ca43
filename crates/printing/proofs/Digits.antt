-- The digits of a number, one by one.
-- Assumes nothing.
use mathlib.Core.Path.{◌≡◌, sym, ap, ◌∙◌}
use mathlib.Core.List.{List, [], ◌∷◌, ◌++◌}
use Prim.Native.Nat.{ℕ, zero, suc, ◌+◌, ◌-◌, ◌*◌, ◌/◌, ◌%◌, ◌^◌, ◌≤◌, ◌<◌}
use native.Mathlib.Nat.{pow-suc}
use native.Mathlib.Omega.{arith}
use borrow.Author.Tests.{lt-ltb, le-ltb}
use lib.Dec.{ltb}
use lib.ListN.{length, length-append}
use Rattle.boxes.proofs.Lists.{by_test}
use Rattle.printing.specs.Printed.{digit, digits_in, word_digits, digits}
use Rattle.printing.specs.Working.Writing.{Output, push, write}
use Rattle.printing.proofs.Outputs.{write_one, then}

-- more digits than there are make no difference
digits_in_lem : (k n : ℕ) → n < 10 ^ suc k → digits_in (suc k) n ≡ digits_in (suc (suc k)) n
unfolding digits_in
digits_in_lem zero n h = rw (lt-ltb n 10 h)
digits_in_lem (suc k) n h =
    let l : n < 10 ^ suc k * 10 = rw pow-suc at h in
    by_test (ltb n 10) (λ e. rw e) (λ e. rw (e, digits_in_lem k (n / 10) (omega arith)))

-- the number that digits show
unfoldable pub shown : ℕ → List ℕ → ℕ
shown n [] = n
shown n (d ∷ ds) = shown (n * 10 + (d - 48)) ds

shown_more : (n : ℕ) (ds : List ℕ) (d : ℕ) → shown n (ds ++ (digit d ∷ [])) ≡ shown n ds * 10 + d
unfolding shown
shown_more n [] d = omega arith
shown_more n (e ∷ ds) d = shown_more (n * 10 + (e - 48)) ds d

shown_in : (k n : ℕ) → n < 10 ^ suc k → shown 0 (digits_in (suc k) n) ≡ n
unfolding digits_in shown
shown_in zero n h = rw (lt-ltb n 10 h) (omega arith)
shown_in (suc k) n h =
    let l : n < 10 ^ suc k * 10 = rw pow-suc at h in
    by_test (ltb n 10)
    (λ e. rw e (omega arith))
    (λ e. rw (e, shown_more 0 (digits_in (suc k) (n / 10)) (n % 10), shown_in k (n / 10) (omega arith)) (omega arith))

length_in : (k n : ℕ) → length (digits_in k n) ≤ k
unfolding digits_in
length_in zero n = omega arith
length_in (suc k) n =
    by_test (ltb n 10)
    (λ e. rw e (omega arith))
    (λ e. rw (e, length-append) (omega (arith, length_in k (n / 10))))

-- the digits of a word show the word
pub digits_show : (n : ℕ) → n < 2 ^ 64 → shown 0 (digits n) ≡ n
unfolding digits
digits_show n h = shown_in 19 n (omega arith)

pub digits_length : (n : ℕ) → length (digits n) ≤ word_digits
unfolding digits
digits_length n = length_in word_digits n

pub digits_one : (n : ℕ) → n < 10 → digits n ≡ digit n ∷ []
unfolding digits digits_in
digits_one n h = rw (lt-ltb n 10 h)

more_in : (k n : ℕ) → 10 ≤ n → digits_in (suc k) n ≡ digits_in k (n / 10) ++ (digit (n % 10) ∷ [])
unfolding digits_in
more_in k n h = rw (le-ltb n 10 h)

pub digits_more : (n : ℕ) → 10 ≤ n → n < 2 ^ 64 → digits n ≡ digits (n / 10) ++ (digit (n % 10) ∷ [])
unfolding digits
digits_more n h l = more_in 19 n h ∙ ap (λ (ds : List ℕ). ds ++ (digit (n % 10) ∷ [])) (digits_in_lem 18 (n / 10) (omega arith))

-- how many there are
pub one_digit : (n : ℕ) → n < 10 → length (digits n) ≡ 1
one_digit n h = rw (digits_one n h)

pub tenth_digits : (n : ℕ) → 10 ≤ n → n < 2 ^ 64 → length (digits n) ≡ length (digits (n / 10)) + 1
tenth_digits n h l = rw (digits_more n h l, length-append)

-- a number's last digit, behind the others
module _ (s : Output) (n : ℕ) where
  pub last_digit : {t u : Output} → 10 ≤ n → n < 2 ^ 64 → t ≡ write s (digits (n / 10)) → u ≡ push t (digit (n % 10)) → u ≡ write s (digits n)
  last_digit {t} h l e f =
      rw (digits_more n h l) (then s (digits (n / 10)) (digit (n % 10) ∷ []) e (f ∙ sym (write_one t (digit (n % 10)))))

  pub only_digit : {u : Output} → n < 10 → u ≡ push s (digit n) → u ≡ write s (digits n)
  only_digit h f = rw (digits_one n h) (f ∙ sym (write_one s (digit n)))
