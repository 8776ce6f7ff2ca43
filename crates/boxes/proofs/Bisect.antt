-- Bisection finds where a test turns false.
-- Assumes nothing.
use mathlib.Core.Path.{◌≡◌, sym, ap, ◌∙◌}
use mathlib.Core.Bool.{Bool, true, false, true≢false}
use Prim.Native.Nat.{ℕ, zero, suc, ◌+◌, ◌/◌, ◌^◌, ◌≤◌, ◌<◌}
use native.Mathlib.Omega.{arith}
use native.Mathlib.Decide.{ℕ_discrete}
use Rattle.boxes.specs.Working.Cuts.{bisect}
use Rattle.boxes.proofs.Lists.{by_test}

-- the test is true at m, which is from lo to below hi, and false at m + 1
pub record Turns (p : ℕ → Bool) (lo hi m : ℕ) : Type 0 where
  pub from_lo : lo ≤ m
  pub below_hi : m < hi
  pub true_at : p m ≡ true
  pub false_next : p (suc m) ≡ false

pub bisect_turns : (n : ℕ) (p : ℕ → Bool) (lo hi : ℕ) → lo ≤ hi → hi ≤ lo + 2 ^ n → p lo ≡ true → p hi ≡ false
    → Turns p lo hi (bisect n p lo hi)
unfolding bisect
bisect_turns zero p lo hi l w t f =
    let e : hi ≡ suc lo = elim (ℕ_discrete lo hi) [ yes q ↦ absurd (true≢false (sym t ∙ ap p q ∙ f)) | no q ↦ omega arith ] in
    record { from_lo = omega arith; below_hi = omega arith; true_at = t; false_next = sym (ap p e) ∙ f }
bisect_turns (suc n) p lo hi l w t f =
    let mid = (lo + hi) / 2 in
    by_test (p mid)
    (λ e.
    let r = bisect_turns n p mid hi (omega arith) (omega arith) e f in
    rw (e, bisect) (record { from_lo = omega arith; below_hi = r.below_hi; true_at = r.true_at; false_next = r.false_next }))
    (λ e.
    let r = bisect_turns n p lo mid (omega arith) (omega arith) t e in
    rw (e, bisect) (record { from_lo = r.from_lo; below_hi = omega arith; true_at = r.true_at; false_next = r.false_next }))
