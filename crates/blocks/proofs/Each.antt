-- A test of numbers in a row: one more of them, and all of them.
-- Assumes nothing.
use Rattle.std.proofs.Common.{◌≡◌, ℕ, zero, suc, ◌+◌, ◌-◌, ◌<◌, ◌≤◌, Bool, true, false, ◌&&◌, eqb, refl, ◌∙◌, add-one, arith, eqb-true}
use mathlib.Core.Bool.{and-eq-true_iff}
use borrow.Author.Tests.{eqb-false}
use Rattle.std.specs.List.{list_all, range_with_len}
use Rattle.boxes.proofs.Lists.{by_test}
use Rattle.blocks.specs.Block.{each}

-- the library's test of the numbers of a range
pub each_list : (p : ℕ → Bool) (n k : ℕ) → list_all p (range_with_len k n) ≡ each p k n
unfolding each
each_list p zero k = refl
each_list p (suc n) k = rw (each_list p n (k + 1), add-one)

module _ (p : ℕ → Bool) (k e : ℕ) where
  pub each_end : e ≤ k → each p k (e - k) ≡ true
  unfolding each
  each_end h = let z : e - k ≡ 0 = omega arith in rw z

  each_more : k < e → each p k (e - k) ≡ p k && each p (k + 1) (e - (k + 1))
  unfolding each
  each_more h = let m : e - k ≡ suc (e - suc k) = omega arith in rw (add-one k, m)

  pub each_stop : k < e → p k ≡ false → each p k (e - k) ≡ false
  each_stop h n = each_more h ∙ rw n

  pub each_go : k < e → p k ≡ true → each p k (e - k) ≡ each p (k + 1) (e - (k + 1))
  each_go h y = each_more h ∙ rw y

-- `each` is true exactly if the test is true of every number
module _ (p : ℕ → Bool) where
  pub each_all : (n k : ℕ) → ((i : ℕ) → k ≤ i → i < k + n → p i ≡ true) → each p k n ≡ true
  unfolding each
  each_all zero k h = refl
  each_all (suc n) k h = rw (h k (omega arith) (omega arith)) (each_all n (suc k) (λ i l m. h i (omega arith) (omega arith)))

  pub each_at : (n k : ℕ) → each p k n ≡ true → (i : ℕ) → k ≤ i → i < k + n → p i ≡ true
  unfolding each
  each_at zero k h i l m = absurd (omega arith)
  each_at (suc n) k h i l m =
      let (one, others) = (and-eq-true_iff (p k) (each p (suc k) n)).0 h in
      by_test (eqb i k)
      (λ e. rw (eqb-true i k e) one)
      (λ e. let d = eqb-false i k e in each_at n (suc k) others i (omega arith) (omega arith))
