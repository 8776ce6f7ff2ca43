-- The definitions at small boxes, by listing, and at boxes of 64 bits, by the corners.
-- Assumes nothing.
use mathlib.Core.Path.{◌≡◌, refl, sym, ◌∙◌}
use mathlib.Core.Logic.{inl}
use mathlib.Core.Bool.{true, false}
use mathlib.Core.List.{[], ◌∷◌, flat_map}
use Prim.Native.Nat.{ℕ, ◌+◌, ◌-◌, ◌*◌, ◌/◌, ◌^◌}
use native.Mathlib.Omega.{arith}
use lib.Dec.{ltb, lit≤}
use Rattle.boxes.specs.Boxes.{Choice, ◌⋯◌, at, from, width, values, choices, best, least, greatest, every, same, low, high, fixed}
use Rattle.boxes.specs.Boxes.{keep, classes, hull, piece, pieces}
use Rattle.boxes.specs.Working.Cuts.{bisect, edge, corner_pieces}
use Rattle.boxes.proofs.Corners.{corner_pieces_lem}

-- the first input slowest
two : choices (0 ⋯ 1 ∷ 5 ⋯ 6 ∷ []) ≡ (0 ∷ 5 ∷ []) ∷ (0 ∷ 6 ∷ []) ∷ (1 ∷ 5 ∷ []) ∷ (1 ∷ 6 ∷ []) ∷ []
unfolding choices values width from flat_map
two = refl

extremes : (low (λ c. 9 - at c 1) (0 ⋯ 1 ∷ 5 ⋯ 7 ∷ []) ≡ 2) × (high (λ c. 9 - at c 1) (0 ⋯ 1 ∷ 5 ⋯ 7 ∷ []) ≡ 4)
    × (fixed (λ c. 9 - at c 1) (0 ⋯ 1 ∷ 5 ⋯ 7 ∷ []) ≡ false) × (fixed (λ c. at c 1) (0 ⋯ 1 ∷ 5 ⋯ 5 ∷ []) ≡ true)
unfolding low high fixed least greatest best same every choices values width from flat_map
extremes = (refl, refl, refl, refl)

-- 3..7 mod 5, the second input cut: 3..4 and 5..7
modulo : pieces (λ c. at c 1 / 5) (0 ⋯ 1 ∷ 3 ⋯ 7 ∷ []) ≡ (0 ⋯ 1 ∷ 3 ⋯ 4 ∷ []) ∷ (0 ⋯ 1 ∷ 5 ⋯ 7 ∷ []) ∷ []
unfolding pieces piece hull keep classes least greatest best choices values width from flat_map
modulo = refl

-- less, equal and greater than 10 are three pieces of 0..255
order : ℕ → ℕ
order x = elim (ltb x 10) [ true ↦ 0 | false ↦ elim (ltb 10 x) [ true ↦ 2 | false ↦ 1 ] ]

three : pieces (λ c. order (at c 0)) (0 ⋯ 255 ∷ []) ≡ (0 ⋯ 9 ∷ []) ∷ (10 ⋯ 10 ∷ []) ∷ (11 ⋯ 255 ∷ []) ∷ []
unfolding order pieces piece hull keep classes least greatest best choices values width from flat_map
three = refl

-- 0..MAX plus 5: the wrap changes after MAX - 5
wrap : Choice → ℕ
wrap c = (at c 0 + 5) / 2 ^ 64

plus : pieces wrap (0 ⋯ (2 ^ 64 - 1) ∷ []) ≡ (0 ⋯ (2 ^ 64 - 6) ∷ []) ∷ ((2 ^ 64 - 5) ⋯ (2 ^ 64 - 1) ∷ []) ∷ []
unfolding wrap corner_pieces edge bisect
plus =
    sym
    (corner_pieces_lem wrap 0 1 (0 ⋯ (2 ^ 64 - 1) ∷ []) (lit≤ tt, tt) (inl (λ c d i j l. omega arith))
    (lit≤ tt) (lit≤ tt) (lit≤ tt))
    ∙ refl

-- 0..2^63 times 2: the second piece is 2^63 alone
quotient : Choice → ℕ
quotient c = at c 1 * 2 / 2 ^ 64

times : pieces quotient (3 ⋯ 4 ∷ 0 ⋯ 2 ^ 63 ∷ []) ≡ (3 ⋯ 4 ∷ 0 ⋯ (2 ^ 63 - 1) ∷ []) ∷ (3 ⋯ 4 ∷ 2 ^ 63 ⋯ 2 ^ 63 ∷ []) ∷ []
unfolding quotient corner_pieces edge bisect
times =
    sym
    (corner_pieces_lem quotient 1 1 (3 ⋯ 4 ∷ 0 ⋯ 2 ^ 63 ∷ []) (lit≤ tt, (lit≤ tt, tt)) (inl (λ c d i j l. omega arith))
    (lit≤ tt) (lit≤ tt) (lit≤ tt))
    ∙ refl
