-- A box cut in two along an input: the choices of each half are those of the box that pass a test, in their order.
-- Assumes nothing.
use mathlib.Core.Path.{◌≡◌, refl, ap, ◌∙◌}
use mathlib.Core.Logic.{◌↔◌}
use mathlib.Core.Bool.{Bool, true, not}
use mathlib.Core.List.{List, [], ◌∷◌, ◌++◌, flat_map}
use Prim.Native.Nat.{ℕ, zero, suc, ◌+◌, ◌-◌, ◌≤◌, ◌<◌}
use native.Mathlib.Nat.{zero-add, suc-add, add-suc, add-zero}
use native.Mathlib.Omega.{arith}
use native.Mathlib.Decide.{dec_lt}
use lib.Dec.{leb}
use lib.ListN.{length, length-map, set, get_or-eq_default}
use lib.Seq.{set-set, set-get_or, get_or-set_same}
use borrow.Author.Tests.{le-leb, lt-leb, leb-true, leb-false, not-true}
use Rattle.boxes.specs.Boxes.{Choice, Interval, ◌⋯◌, Box, at, from, width, values, prefixed, choices, size, keep, lows, highs}
use Rattle.boxes.specs.Boxes.{Inside, Within}
use Rattle.boxes.specs.Working.Cuts.{Proper, cut, below, above, Splits}
use Rattle.boxes.proofs.Lists.{by_test, map_set, keep_mem, mem_keep, keep_all, keep_none, keep_split, keep_map, keep_flat_map}
use Rattle.boxes.proofs.Lists.{keep_length}
use Rattle.boxes.proofs.Choices.{mem_choices, mem_values}

-- an interval cut in two

from_append : (a n k : ℕ) → from a (n + k) ≡ from a n ++ from (a + n) k
unfolding from
from_append a zero k = rw (zero-add, add-zero)
from_append a (suc n) k = rw (suc-add, add-suc, ← suc-add) (ap (λ (l : List ℕ). a ∷ l) (from_append (suc a) n k))

values_append : (x m y : ℕ) → x ≤ suc m → m ≤ y → values (x ⋯ y) ≡ values (x ⋯ m) ++ values (suc m ⋯ y)
unfolding values width
values_append x m y l h =
    let e : suc y - x ≡ (suc m - x) + (suc y - suc m) = omega arith in
    let d : x + (suc m - x) ≡ suc m = omega arith in
    rw e (from_append x (suc m - x) (suc y - suc m) ∙ rw d)

-- the two halves, as the numbers up to m and those after it
values_cut : (x m y : ℕ) → x ≤ suc m → m ≤ y
    → (keep (λ n. leb n m) (values (x ⋯ y)) ≡ values (x ⋯ m)) × (keep (λ n. not (leb n m)) (values (x ⋯ y)) ≡ values (suc m ⋯ y))
values_cut x m y l h =
    rw (values_append x m y l h)
    (keep_split (λ n. leb n m) (values (x ⋯ m)) (values (suc m ⋯ y))
    (λ n i. le-leb n m ((mem_values (x ⋯ m)).0 i).1) (λ n i. lt-leb n m ((mem_values (suc m ⋯ y)).0 i).0))

-- a box cut to the values of one input that pass a test

module _ (p : ℕ → Bool) where
  keep_first : (l : List Choice) (xs : List ℕ)
      → flat_map (λ (x : ℕ). prefixed (keep (λ (c : Choice). p x) l) x) xs ≡ flat_map (prefixed l) (keep p xs)
  unfolding keep flat_map
  keep_first l [] = refl
  keep_first l (x ∷ xs) =
      let ih = keep_first l xs in
      by_test (p x)
      (λ e. let k = keep_all (λ (c : Choice). p x) l (λ c m. e) in cc)
      (λ e. let k = keep_none (λ (c : Choice). p x) l (λ c m. e) in cc)

  choices_keep : (b : Box) (i : ℕ) (v : Interval) → i < length b → keep p (values (at (lows b) i ⋯ at (highs b) i)) ≡ values v
      → keep (λ c. p (at c i)) (choices b) ≡ choices (cut b i v)
  unfolding choices
  choices_keep [] i v l e = absurd (omega arith)
  choices_keep (w ∷ b) zero v l e = simp (keep_flat_map, keep_map) (keep_first (choices b) (values w) ∙ rw e)
  choices_keep (w ∷ b) (suc i) v l e = simp (keep_flat_map, keep_map, choices_keep b i v (omega arith) e)

inside_keep : (p : Choice → Bool) (a b : Box) → keep p (choices b) ≡ choices a
    → (c : Choice) → Inside c a ↔ (Inside c b × (p c ≡ true))
inside_keep p a b e c = (
  λ j. let (n, t) = keep_mem p (choices b) (rw (← e) at ((mem_choices a c).1 j)) in ((mem_choices b c).0 n, t),
  λ j. (mem_choices a c).0 (rw e at (mem_keep p ((mem_choices b c).1 j.0) j.1)),
)

-- a box with another interval of one input: its corners, that it is proper, and what it lies within

pub lows_cut : (b : Box) (i : ℕ) (v : Interval) → lows (cut b i v) ≡ set (lows b) i v.low
lows_cut b i v = map_set (λ (w : Interval). w.low) b i v

pub highs_cut : (b : Box) (i : ℕ) (v : Interval) → highs (cut b i v) ≡ set (highs b) i v.high
highs_cut b i v = map_set (λ (w : Interval). w.high) b i v

pub proper_cut : (b : Box) (i : ℕ) (v : Interval) → Proper b → v.low ≤ v.high → Proper (cut b i v)
proper_cut [] i v p h = tt
proper_cut (w ∷ b) zero v p h = (h, p.1)
proper_cut (w ∷ b) (suc i) v p h = (p.0, proper_cut b i v p.1 h)

pub cut_within : (b : Box) (i : ℕ) (v : Interval) → at (lows b) i ≤ v.low → v.high ≤ at (highs b) i → Within (cut b i v) b
cut_within [] i v l h c m = m
cut_within (w ∷ b) zero v l h [] m = m
cut_within (w ∷ b) zero v l h (x ∷ c) m = (omega arith, omega arith, m.2)
cut_within (w ∷ b) (suc i) v l h [] m = m
cut_within (w ∷ b) (suc i) v l h (x ∷ c) m = (m.0, m.1, cut_within b i v l h c m.2)

-- an input set back to its own interval
pub cut_same : (b : Box) (i : ℕ) → cut b i (at (lows b) i ⋯ at (highs b) i) ≡ b
cut_same [] i = refl
cut_same (w ∷ b) zero = refl
cut_same (w ∷ b) (suc i) = ap (λ (r : Box). w ∷ r) (cut_same b i)

module _ (b : Box) (i : ℕ) (h : i < length b) where
  pub low_cut : (v : Interval) → at (lows (cut b i v)) i ≡ v.low
  low_cut v = rw lows_cut (get_or-set_same (lows b) i v.low 0 (rw length-map h))

  pub high_cut : (v : Interval) → at (highs (cut b i v)) i ≡ v.high
  high_cut v = rw highs_cut (get_or-set_same (highs b) i v.high 0 (rw length-map h))

  -- two intervals of one input, the second within the first
  pub cut_narrow : (v w : Interval) → v.low ≤ w.low → w.high ≤ v.high → Within (cut b i w) (cut b i v)
  cut_narrow v w l r =
      rw (set-set b i v w) at (cut_within (cut b i v) i w (rw (low_cut v) l) (rw (high_cut v) r))

pub proper_narrow : (b : Box) (i : ℕ) (v w : Interval) → Proper (cut b i v) → w.low ≤ w.high → Proper (cut b i w)
proper_narrow b i v w p l = rw (set-set b i v w) at (proper_cut (cut b i v) i w p l)

pub in_range : (b : Box) (i : ℕ) → at (lows b) i < at (highs b) i → i < length b
in_range b i l =
    elim (dec_lt i (length b)) [
      | yes r ↦ r
      | no r ↦ absurd (omega (arith, get_or-eq_default (highs b) 0 {n = i} (rw length-map (omega arith))))
    ]

-- the two halves: their choices, their number, their corners

module _ {b : Box} {i m : ℕ} (s : Splits b i m) where
  pub choices_below : keep (λ c. leb (at c i) m) (choices b) ≡ choices (below b i m)
  choices_below =
      choices_keep (λ n. leb n m) b i (at (lows b) i ⋯ m) (in_range b i (omega arith))
      (values_cut (at (lows b) i) m (at (highs b) i) (omega arith) (omega arith)).0

  pub choices_above : keep (λ c. not (leb (at c i) m)) (choices b) ≡ choices (above b i m)
  choices_above =
      choices_keep (λ n. not (leb n m)) b i (suc m ⋯ at (highs b) i) (in_range b i (omega arith))
      (values_cut (at (lows b) i) m (at (highs b) i) (omega arith) (omega arith)).1

  pub inside_below : (c : Choice) → Inside c (below b i m) ↔ (Inside c b × (at c i ≤ m))
  inside_below c =
      let k = inside_keep (λ c. leb (at c i) m) (below b i m) b choices_below c in
      (λ j. ((k.0 j).0, leb-true (at c i) m (k.0 j).1), λ j. k.1 (j.0, le-leb (at c i) m j.1))

  pub inside_above : (c : Choice) → Inside c (above b i m) ↔ (Inside c b × (m < at c i))
  inside_above c =
      let k = inside_keep (λ c. not (leb (at c i) m)) (above b i m) b choices_above c in (
        λ j. ((k.0 j).0, leb-false (at c i) m (not-true (leb (at c i) m) (k.0 j).1)),
        λ j. k.1 (j.0, ap not (lt-leb (at c i) m j.1)),
      )

  pub below_within : Within (below b i m) b
  below_within c j = ((inside_below c).0 j).0

  pub above_within : Within (above b i m) b
  above_within c j = ((inside_above c).0 j).0

  pub size_cut : size (below b i m) + size (above b i m) ≡ size b
  unfolding size
  size_cut = rw (← choices_below, ← choices_above) (keep_length (λ c. leb (at c i) m) (choices b))

  pub proper_below : Proper b → Proper (below b i m)
  proper_below p = proper_cut b i (at (lows b) i ⋯ m) p s.lowest

  pub proper_above : Proper b → Proper (above b i m)
  proper_above p = proper_cut b i (suc m ⋯ at (highs b) i) p s.highest

  pub highs_above : highs (above b i m) ≡ highs b
  highs_above = highs_cut b i (suc m ⋯ at (highs b) i) ∙ set-get_or (highs b) i 0

  pub high_below : at (highs (below b i m)) i ≡ m
  high_below = rw highs_cut (get_or-set_same (highs b) i m 0 (rw length-map (in_range b i (omega arith))))

  pub low_above : at (lows (above b i m)) i ≡ suc m
  low_above = rw lows_cut (get_or-set_same (lows b) i (suc m) 0 (rw length-map (in_range b i (omega arith))))
