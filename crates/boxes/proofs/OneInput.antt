-- A value over a box: its least and its greatest, and whether it is fixed. Where it hangs on one input, and only rises or only
-- falls with it, the lowest and the highest choice say all three.
-- Assumes nothing.
use mathlib.Core.Path.{◌≡◌, refl, sym, ap, ◌∙◌}
use mathlib.Core.Logic.{inl, inr, ◌↔◌, ◌⊎◌, ⊎_elim}
use mathlib.Core.Bool.{true}
use mathlib.Core.List.Memᴰ
use mathlib.Core.List.{map}
use Prim.Native.Nat.{ℕ, ◌≤◌, min, max}
use native.Mathlib.Omega.{arith}
use native.Mathlib.Decide.{dec_le}
use lib.Dec.{eqb}
use borrow.Author.Tests.{eqb-true, eqb-false}
use Rattle.boxes.specs.Boxes.{Choice, Box, at, choices, low, high, fixed, lows, highs, Inside, Within, ◌∈◌}
use Rattle.boxes.specs.Working.Cuts.{Proper, Along, OneInput, Convex}
use Rattle.boxes.proofs.Lists.{by_test}
use Rattle.boxes.proofs.Choices.{mem_choices, choices_first, lows_inside, highs_inside, inside_at}
use Rattle.boxes.proofs.Extremes.{least_mem, greatest_mem, least_le, le_greatest, least_is, greatest_is, same_eq, eq_same}

-- any value

module _ (f : Choice → ℕ) (b : Box) where
  value_mem : (c : Choice) → Inside c b → f c ∈ map f (choices b)
  value_mem c h = Memᴰ.map f ((mem_choices b c).1 h)

  of_value : (P : ℕ → Type 0) → ((c : Choice) → Inside c b → P (f c)) → (x : ℕ) → x ∈ map f (choices b) → P x
  of_value P h x m = let (c, n, e) = Memᴰ.of_map f (choices b) m in rw e at (h c ((mem_choices b c).0 n))

  pub low_le : (c : Choice) → Inside c b → low f b ≤ f c
  unfolding low
  low_le c h = least_le (map f (choices b)) (value_mem c h)

  pub le_high : (c : Choice) → Inside c b → f c ≤ high f b
  unfolding high
  le_high c h = le_greatest (map f (choices b)) (value_mem c h)

  pub low_is : (c : Choice) → Inside c b → ((d : Choice) → Inside d b → f c ≤ f d) → low f b ≡ f c
  unfolding low
  low_is c i h = least_is (map f (choices b)) (value_mem c i) (of_value (λ x. f c ≤ x) h)

  pub high_is : (c : Choice) → Inside c b → ((d : Choice) → Inside d b → f d ≤ f c) → high f b ≡ f c
  unfolding high
  high_is c i h = greatest_is (map f (choices b)) (value_mem c i) (of_value (λ x. x ≤ f c) h)

  -- fixed: the same at any two choices
  pub fixed_constant : fixed f b ≡ true → (c d : Choice) → Inside c b → Inside d b → f c ≡ f d
  unfolding fixed
  fixed_constant e c d i j = same_eq (map f (choices b)) e (value_mem c i) (value_mem d j)

  pub constant_fixed : ((c d : Choice) → Inside c b → Inside d b → f c ≡ f d) → fixed f b ≡ true
  unfolding fixed
  constant_fixed h =
      eq_same (map f (choices b)) (λ x y m n. of_value (λ z. z ≡ y) (λ c i. of_value (λ z. f c ≡ z) (λ d j. h c d i j) y n) x m)

  -- two numbers that are equal exactly if the value is constant
  fixed_eqb : (x y : ℕ) → (x ≡ y) ↔ ((c d : Choice) → Inside c b → Inside d b → f c ≡ f d) → fixed f b ≡ eqb x y
  fixed_eqb x y h =
      by_test (eqb x y)
      (λ e. constant_fixed (h.0 (eqb-true x y e)) ∙ sym e)
      (λ e. by_test (fixed f b) (λ t. absurd (eqb-false x y e (h.1 (fixed_constant t)))) (λ t. t ∙ sym e))

-- the least and the greatest value over a proper box are values
module _ (f : Choice → ℕ) (b : Box) (p : Proper b) where
  reached : (x : ℕ) → x ∈ map f (choices b) → (c : Choice) × Inside c b × (f c ≡ x)
  reached = of_value f b (λ x. (c : Choice) × Inside c b × (f c ≡ x)) (λ c h. (c, h, refl))

  pub low_reached : (c : Choice) × Inside c b × (f c ≡ low f b)
  unfolding low
  low_reached = let (r, q) = choices_first b p in reached (low f b) (rw q (least_mem (f (lows b)) (map f r)))

  pub high_reached : (c : Choice) × Inside c b × (f c ≡ high f b)
  unfolding high
  high_reached = let (r, q) = choices_first b p in reached (high f b) (rw q (greatest_mem (f (lows b)) (map f r)))

-- what rises with a value has its least where the value has its own, and its greatest there too
module _ (f : Choice → ℕ) (m : ℕ → ℕ) (b : Box) (p : Proper b)
    (rises : (c d : Choice) → Inside c b → Inside d b → f c ≤ f d → m (f c) ≤ m (f d)) where
  pub low_carried : low (λ c. m (f c)) b ≡ m (low f b)
  low_carried =
      let (c, i, e) = low_reached f b p in
      low_is (λ c. m (f c)) b c i (λ d n. rises c d i n (rw e (low_le f b d n))) ∙ ap m e

  pub high_carried : high (λ c. m (f c)) b ≡ m (high f b)
  high_carried =
      let (c, i, e) = high_reached f b p in
      high_is (λ c. m (f c)) b c i (λ d n. rises d c n i (rw e (le_high f b d n))) ∙ ap m e

-- a value of one input, at the two corners

ends : (R : ℕ → ℕ → Type 0) (f : Choice → ℕ) (i : ℕ) (b : Box) → Proper b → Along R b i f
    → (c : Choice) → Inside c b → R (f (lows b)) (f c) × R (f c) (f (highs b))
ends R f i b p r c h =
    let e = inside_at b c h i in
    (r (lows b) c (lows_inside b p) h e.0, r c (highs b) h (highs_inside b p) e.1)

module _ {f : Choice → ℕ} {i : ℕ} (b : Box) (p : Proper b) (one : OneInput b i f) where
  pub between : (c : Choice) → Inside c b → (min (f (lows b)) (f (highs b)) ≤ f c) × (f c ≤ max (f (lows b)) (f (highs b)))
  between c h =
      ⊎_elim (λ r. omega (arith, ends (λ x y. x ≤ y) f i b p r c h)) (λ r. omega (arith, ends (λ x y. y ≤ x) f i b p r c h)) one

  pub low_corner : low f b ≡ min (f (lows b)) (f (highs b))
  low_corner =
      elim (dec_le (f (lows b)) (f (highs b))) [
        | yes h ↦ low_is f b (lows b) (lows_inside b p) (λ d j. omega (arith, between d j)) ∙ omega arith
        | no h ↦ low_is f b (highs b) (highs_inside b p) (λ d j. omega (arith, between d j)) ∙ omega arith
      ]

  pub high_corner : high f b ≡ max (f (lows b)) (f (highs b))
  high_corner =
      elim (dec_le (f (lows b)) (f (highs b))) [
        | yes h ↦ high_is f b (highs b) (highs_inside b p) (λ d j. omega (arith, between d j)) ∙ omega arith
        | no h ↦ high_is f b (lows b) (lows_inside b p) (λ d j. omega (arith, between d j)) ∙ omega arith
      ]

  -- so the lowest choice gives one of the two, and the highest the other
  pub at_corners : ((f (lows b) ≡ low f b) × (f (highs b) ≡ high f b)) ⊎ ((f (lows b) ≡ high f b) × (f (highs b) ≡ low f b))
  at_corners =
      elim (dec_le (f (lows b)) (f (highs b))) [
        | yes h ↦ inl (omega (arith, low_corner), omega (arith, high_corner))
        | no h ↦ inr (omega (arith, high_corner), omega (arith, low_corner))
      ]

  -- equal at the corners: equal everywhere
  pub constant_corner : f (lows b) ≡ f (highs b) → (c : Choice) → Inside c b → f c ≡ f (lows b)
  constant_corner e c h = omega (arith, between c h)

  pub fixed_corner : fixed f b ≡ eqb (f (lows b)) (f (highs b))
  fixed_corner =
      fixed_eqb f b (f (lows b)) (f (highs b)) (
        λ e c d i j. constant_corner e c i ∙ sym (constant_corner e d j),
        λ k. k (lows b) (highs b) (lows_inside b p) (highs_inside b p),
      )

-- how a value comes to hang on one input: it is constant; it does so on a larger box; it rises or falls with one that does

module _ {f : Choice → ℕ} {i : ℕ} (b : Box) where
  pub one_input_constant : ((c d : Choice) → Inside c b → Inside d b → f c ≡ f d) → OneInput b i f
  one_input_constant h = inl (λ c d m n l. omega (arith, h c d m n))

  pub one_input_within : (a : Box) → Within a b → OneInput b i f → OneInput a i f
  one_input_within a w = ⊎_elim (λ r. inl (λ c d m n. r c d (w c m) (w d n))) (λ r. inr (λ c d m n. r c d (w c m) (w d n)))

  pub one_input_same : OneInput b i f → (c d : Choice) → Inside c b → Inside d b → at c i ≡ at d i → f c ≡ f d
  one_input_same one c d m n e =
      ⊎_elim (λ r. omega (arith, r c d m n (omega arith), r d c n m (omega arith))) (λ r. omega (arith, r c d m n (omega arith), r d c n m (omega arith))) one

  pub one_input_rise : {g : Choice → ℕ} → ((c d : Choice) → Inside c b → Inside d b → f c ≤ f d → g c ≤ g d)
      → OneInput b i f → OneInput b i g
  one_input_rise h = ⊎_elim (λ r. inl (λ c d m n l. h c d m n (r c d m n l))) (λ r. inr (λ c d m n l. h d c n m (r c d m n l)))

  pub one_input_fall : {g : Choice → ℕ} → ((c d : Choice) → Inside c b → Inside d b → f c ≤ f d → g d ≤ g c)
      → OneInput b i f → OneInput b i g
  one_input_fall h = ⊎_elim (λ r. inr (λ c d m n l. h c d m n (r c d m n l))) (λ r. inl (λ c d m n l. h d c n m (r c d m n l)))

  pub one_input_convex : OneInput b i f → Convex b i f
  one_input_convex one c d e hc hd he l m q =
      ⊎_elim (λ r. omega (arith, r c d hc hd l, r d e hd he m)) (λ r. omega (arith, r c d hc hd l, r d e hd he m)) one

  pub convex_within : (a : Box) → Within a b → Convex b i f → Convex a i f
  convex_within a w h c d e hc hd he = h c d e (w c hc) (w d hd) (w e he)
