-- A box in two lists, when a value hangs on one input, how a box is cut along an input, and the pieces found by cutting and bisection.
-- All but the statements runs at once on numbers of any size, at the corners of a box: its lowest and its highest choice.
use Rattle.std.specs.Prelude.{◌≡◌, ◌⊎◌, ◌≢◌, Bool, true, false, List, [], ◌∷◌, ℕ, zero, suc, ◌+◌, ◌/◌, ◌≤◌, ◌<◌, eqb, set}
use Rattle.boxes.specs.Boxes.{Choice, Interval, ◌⋯◌, Box, at, lows, highs, Inside}

-- every low is at most its high
abbrev pub Proper : Box → Type 0
Proper [] = Unit {0}
Proper (v ∷ b) = (v.low ≤ v.high) × Proper b

-- the box whose lowest and highest choice are given
unfoldable pub box_in : List ℕ → List ℕ → Box
box_in [] hs = []
box_in (l ∷ ls) [] = []
box_in (l ∷ ls) (h ∷ hs) = l ⋯ h ∷ box_in ls hs

-- Among the choices of the box, f hangs on input i alone, and only rises with it, or only falls with it.
abbrev pub Along : (ℕ → ℕ → Type 0) → Box → ℕ → (Choice → ℕ) → Type 0
Along R b i f = (c d : Choice) → Inside c b → Inside d b → at c i ≤ at d i → R (f c) (f d)

abbrev pub Rises : Box → ℕ → (Choice → ℕ) → Type 0
Rises = Along (λ x y. x ≤ y)

abbrev pub Falls : Box → ℕ → (Choice → ℕ) → Type 0
Falls = Along (λ x y. y ≤ x)

abbrev pub OneInput : Box → ℕ → (Choice → ℕ) → Type 0
OneInput b i f = Rises b i f ⊎ Falls b i f

-- The choices of one class lie together along input i. This is all that the laws of pieces ask of a class.
abbrev pub Convex : Box → ℕ → (Choice → ℕ) → Type 0
Convex b i k =
    (c d e : Choice) → Inside c b → Inside d b → Inside e b → at c i ≤ at d i → at d i ≤ at e i → k c ≡ k e → k d ≡ k c

-- the box with another interval of input i, and the box cut in two along input i, after the value m
abbrev pub cut : Box → ℕ → Interval → Box
cut b i v = set b i v

abbrev pub below : Box → ℕ → ℕ → Box
below b i m = cut b i (at (lows b) i ⋯ m)

abbrev pub above : Box → ℕ → ℕ → Box
above b i m = cut b i (suc m ⋯ at (highs b) i)

-- neither half is empty
pub record Splits (b : Box) (i m : ℕ) : Type 0 where
  pub lowest : at (lows b) i ≤ m
  pub highest : m < at (highs b) i

-- m is the last value of input i whose class is that of the lowest choice, and there are values above it
pub record Edge (k : Choice → ℕ) (b : Box) (i m : ℕ) : Type 0 where
  pub splits : Splits b i m
  pub class : k (set (lows b) i m) ≡ k (lows b)
  pub next : k (set (lows b) i (suc m)) ≢ k (lows b)

-- With the test true at lo and false at hi, at most 2 ^ n apart: an m from lo to below hi with the test true at m and false at
-- m + 1, by halving.
unfoldable pub bisect : ℕ → (ℕ → Bool) → ℕ → ℕ → ℕ
bisect zero p lo hi = lo
bisect (suc n) p lo hi =
    let mid = (lo + hi) / 2 in
    elim (p mid) [ true ↦ bisect n p mid hi | false ↦ bisect n p lo mid ]

-- the edge, where the ends of input i are at most 2 ^ n apart
unfoldable pub edge : ℕ → (Choice → ℕ) → Box → ℕ → ℕ
edge n k b i = bisect n (λ x. eqb (k (set (lows b) i x)) (k (lows b))) (at (lows b) i) (at (highs b) i)

-- the pieces of a class that hangs on input i, of 64 bits, and whose values at the corners are at most n apart
unfoldable pub corner_pieces : ℕ → (Choice → ℕ) → ℕ → Box → List Box
corner_pieces zero k i b = b ∷ []
corner_pieces (suc n) k i b =
    elim (eqb (k (lows b)) (k (highs b))) [
      | true ↦ b ∷ []
      | false ↦ let m = edge 64 k b i in below b i m ∷ corner_pieces n k i (above b i m)
    ]
