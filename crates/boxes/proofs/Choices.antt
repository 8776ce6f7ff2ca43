-- The choices of a box: they are those inside it, input by input.
-- Assumes nothing.
use mathlib.Core.Path.{◌≡◌, refl, ap, subst}
use mathlib.Core.Logic.{◌↔◌, ⊎_elim}
use mathlib.Core.List.Memᴰ.{head as here}
use mathlib.Core.List.Memᴰ.{tail as there}
use mathlib.Core.List.{List, [], ◌∷◌, ◌++◌, flat_map}
use mathlib.Core.List.Memᴰ
use Prim.Native.Nat.{ℕ, zero, suc, ◌+◌, ◌-◌, ◌≤◌, ◌<◌}
use native.Mathlib.Omega.{arith}
use native.Mathlib.Decide.{ℕ_discrete}
use lib.ListN.{length, get_or, set, get_or-map}
use Rattle.boxes.specs.Boxes.{Choice, Interval, ◌⋯◌, Box, at, from, width, values, prefixed, choices, size, lows, highs, ◌∈◌}
use Rattle.boxes.specs.Working.Cuts.{Proper}
use Rattle.boxes.specs.Boxes.{Inside}
use Rattle.boxes.proofs.Lists.{mem_flat_map, flat_map_mem}
use Rattle.boxes.proofs.Places.{nonempty}

-- the numbers of an interval

pub from_mem : (n : ℕ) {a x : ℕ} → x ∈ from a n → (a ≤ x) × (x < a + n)
unfolding from
from_mem zero m = absurd (Memᴰ.not-nil m)
from_mem (suc n) m = ⊎_elim (λ e. omega arith) (λ r. let h = from_mem n r in omega arith) (Memᴰ.cases_cons m)

mem_from : (n a x : ℕ) → a ≤ x → x < a + n → x ∈ from a n
unfolding from
mem_from zero a x l h = absurd (omega arith)
mem_from (suc n) a x l h = elim (ℕ_discrete x a) [ yes e ↦ here e | no d ↦ there (mem_from n (suc a) x (omega arith) (omega arith)) ]

pub mem_values : (v : Interval) {x : ℕ} → (x ∈ values v) ↔ ((v.low ≤ x) × (x ≤ v.high))
unfolding values width
mem_values v {x} = (λ m. let h = from_mem (width v) m in omega arith, λ h. mem_from (width v) v.low x h.0 (omega arith))

-- the choices of a box are those inside it

choices_inside : (b : Box) {c : Choice} → c ∈ choices b → Inside c b
unfolding choices
choices_inside [] m = rw (Memᴰ.eq_of_singleton m) tt
choices_inside (v ∷ b) m =
    let (x, l, n) = flat_map_mem (prefixed (choices b)) (values v) m in
    let (d, r, e) = Memᴰ.of_map (λ (c : Choice). x ∷ c) (choices b) n in
    let h = (mem_values v).0 l in
    subst (λ (c : Choice). Inside c (v ∷ b)) e (h.0, h.1, choices_inside b r)

inside_choices : (b : Box) (c : Choice) → Inside c b → c ∈ choices b
unfolding choices
inside_choices [] [] h = here refl
inside_choices [] (x ∷ c) h = absurd h
inside_choices (v ∷ b) [] h = absurd h
inside_choices (v ∷ b) (x ∷ c) h =
    mem_flat_map (prefixed (choices b)) ((mem_values v).1 (h.0, h.1)) (Memᴰ.map (λ (d : Choice). x ∷ d) (inside_choices b c h.2))

pub mem_choices : (b : Box) (c : Choice) → (c ∈ choices b) ↔ Inside c b
mem_choices b c = (choices_inside b, inside_choices b c)

-- the lowest choice is in a proper box, and is its first; so is the highest in it

pub lows_inside : (b : Box) → Proper b → Inside (lows b) b
lows_inside [] h = tt
lows_inside (v ∷ b) h = (omega arith, h.0, lows_inside b h.1)

pub highs_inside : (b : Box) → Proper b → Inside (highs b) b
highs_inside [] h = tt
highs_inside (v ∷ b) h = (h.0, omega arith, highs_inside b h.1)

pub choices_first : (b : Box) → Proper b → (r : List Choice) × (choices b ≡ lows b ∷ r)
unfolding choices values width from flat_map
choices_first [] p = ([], refl)
choices_first (v ∷ b) p =
    let e : suc v.high - v.low ≡ suc (v.high - v.low) = omega arith in
    let (r, q) = choices_first b p.1 in (
      prefixed r v.low ++ flat_map (prefixed (choices b)) (from (suc v.low) (v.high - v.low)),
      rw e (ap (λ (l : List Choice). prefixed l v.low ++ flat_map (prefixed (choices b)) (from (suc v.low) (v.high - v.low))) q),
    )

-- inside, input by input

pub inside_length : (b : Box) (c : Choice) → Inside c b → length c ≡ length b
inside_length [] [] h = refl
inside_length [] (x ∷ c) h = absurd h
inside_length (v ∷ b) [] h = absurd h
inside_length (v ∷ b) (x ∷ c) h = ap suc (inside_length b c h.2)

pub inside_at : (b : Box) (c : Choice) → Inside c b → (i : ℕ) → (at (lows b) i ≤ at c i) × (at c i ≤ at (highs b) i)
inside_at [] [] h i = omega arith
inside_at [] (x ∷ c) h i = absurd h
inside_at (v ∷ b) [] h i = absurd h
inside_at (v ∷ b) (x ∷ c) h zero = (h.0, h.1)
inside_at (v ∷ b) (x ∷ c) h (suc i) = inside_at b c h.2 i

pub at_inside : (b : Box) (c : Choice) → length c ≡ length b
    → ((i : ℕ) → i < length b → (at (lows b) i ≤ at c i) × (at c i ≤ at (highs b) i)) → Inside c b
at_inside [] [] e h = tt
at_inside [] (x ∷ c) e h = absurd (omega arith)
at_inside (v ∷ b) [] e h = absurd (omega arith)
at_inside (v ∷ b) (x ∷ c) e h = let (l, m) = h 0 (omega arith) in (l, m, at_inside b c (omega arith) (λ i k. h (suc i) (omega arith)))

-- a choice of the box with another value of one input
pub inside_set : (b : Box) (c : Choice) (i x : ℕ) → Inside c b → at (lows b) i ≤ x → x ≤ at (highs b) i → Inside (set c i x) b
inside_set [] [] i x j l h = tt
inside_set [] (y ∷ c) i x j l h = absurd j
inside_set (v ∷ b) [] i x j l h = absurd j
inside_set (v ∷ b) (y ∷ c) zero x j l h = (l, h, j.2)
inside_set (v ∷ b) (y ∷ c) (suc i) x j l h = (j.0, j.1, inside_set b c i x j.2 l h)

-- the ends of one interval

pub lows_at : (b : Box) (i : ℕ) → at (lows b) i ≡ (get_or b i (0 ⋯ 0)).low
lows_at b i = get_or-map (λ (v : Interval). v.low) b i (0 ⋯ 0)

pub highs_at : (b : Box) (i : ℕ) → at (highs b) i ≡ (get_or b i (0 ⋯ 0)).high
highs_at b i = get_or-map (λ (v : Interval). v.high) b i (0 ⋯ 0)

-- a proper box has a choice
pub size_positive : (b : Box) → Proper b → 0 < size b
unfolding size
size_positive b p = nonempty (choices b) ((mem_choices b (lows b)).1 (lows_inside b p))
