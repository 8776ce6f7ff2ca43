-- A list whose first places are filled by a rule, one after the other. Assumes nothing.
use mathlib.Core.Path.{◌≡◌, refl, sym, ◌∙◌}
use mathlib.Core.List.{List, map}
use Prim.Native.Nat.{ℕ, zero, suc, ◌+◌, ◌≤◌, ◌<◌}
use native.Mathlib.Nat.{zero-add}
use native.Mathlib.Omega.{arith}
use native.Mathlib.Decide.{ℕ_discrete}
use lib.ListN.{length, get_or, set, replicate, length-set, length-map, length-replicate}
use lib.Seq.{get_or-set_same, get_or-set_other, ext_get_or}
use Rattle.boxes.specs.Boxes.{from}
use Rattle.boxes.proofs.Lists.{from_at, length_from}

pub record Filled (f : ℕ → ℕ) (n : ℕ) (l : List ℕ) (k : ℕ) : Type 0 where
  pub count : length l ≡ n
  pub places : (i : ℕ) → i < k → get_or l i 0 ≡ f i

module _ (f : ℕ → ℕ) (n : ℕ) where
  pub none_filled : (l : List ℕ) → length l ≡ n → Filled f n l 0
  none_filled l e = record { count = e; places = λ i h. absurd (omega arith) }

  pub one_filled : {l : List ℕ} {k v : ℕ} → Filled f n l k → k < n → v ≡ f k → Filled f n (set l k v) (k + 1)
  one_filled {l} {k} {v} c h e = record {
    count = length-set l k v ∙ c.count;
    places = λ i m. elim (ℕ_discrete i k) [
      | yes q ↦ rw q (get_or-set_same l k v 0 (omega (arith, c.count)) ∙ e)
      | no q ↦ get_or-set_other l k i v 0 q ∙ c.places i (omega arith)
    ];
  }

  pub all_filled : {l : List ℕ} {k : ℕ} → Filled f n l k → n ≤ k → l ≡ map f (from 0 n)
  all_filled {l} c h =
      ext_get_or 0 l (map f (from 0 n)) (c.count ∙ sym (length-map (from 0 n) f ∙ length_from n 0))
      (λ i m. c.places i (omega (arith, c.count)) ∙ sym (from_at f 0 n 0 i (omega (arith, c.count)) ∙ rw zero-add))

-- a list filled from another
pub all_copied : {l m : List ℕ} {n k : ℕ} → Filled (λ i. get_or m i 0) n l k → length m ≡ n → n ≤ k → l ≡ m
all_copied {l} {m} c e h = ext_get_or 0 l m (c.count ∙ sym e) (λ i o. c.places i (omega (arith, c.count)))

zero_at : (n i : ℕ) → ◌≡◌ {A = ℕ} (get_or (replicate n 0) i 0) 0
zero_at zero i = refl
zero_at (suc n) zero = refl
zero_at (suc n) (suc i) = zero_at n i

-- a list filled with 0
pub all_cleared : {l : List ℕ} {n k : ℕ} → Filled (λ i. 0) n l k → n ≤ k → l ≡ replicate n 0
all_cleared {l} {n} c h =
    ext_get_or 0 l (replicate n 0) (c.count ∙ sym (length-replicate n 0))
    (λ i o. c.places i (omega (arith, c.count)) ∙ sym (zero_at n i))
