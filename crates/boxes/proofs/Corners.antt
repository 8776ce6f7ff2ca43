-- The pieces by the corners alone are the pieces: where the class hangs on one input of 64 bits, and its values at the corners
-- are at most n apart, at most n cuts find them all.
-- Assumes nothing.
use mathlib.Core.Path.{◌≡◌, sym, ap}
use mathlib.Core.List.{List, ◌∷◌}
use Prim.Native.Nat.{ℕ, zero, suc, ◌+◌, ◌^◌, ◌≤◌}
use native.Mathlib.Omega.{arith}
use lib.Dec.{eqb}
use borrow.Author.Tests.{eqb-true, eqb-false}
use Rattle.boxes.specs.Boxes.{Choice, Box, at, pieces, lows, highs}
use Rattle.boxes.specs.Working.Cuts.{Proper, OneInput, below, above, edge, corner_pieces}
use Rattle.boxes.proofs.Lists.{by_test}
use Rattle.boxes.proofs.Choices.{lows_inside}
use Rattle.boxes.proofs.OneInput.{between, constant_corner, one_input_within, one_input_convex}
use Rattle.boxes.proofs.Cut.{above_within, highs_above, proper_above}
use Rattle.boxes.proofs.Pieces.{pieces_one, pieces_cut, class_above, edge_is}

pub corner_pieces_lem : (k : Choice → ℕ) (i n : ℕ) (b : Box) → Proper b → OneInput b i k → at (highs b) i ≤ 2 ^ 64
    → k (lows b) ≤ k (highs b) + n → k (highs b) ≤ k (lows b) + n → corner_pieces n k i b ≡ pieces k b
unfolding corner_pieces
corner_pieces_lem k i zero b p one w l h = sym (pieces_one k b p (constant_corner b p one (omega arith)))
corner_pieces_lem k i (suc n) b p one w l h =
    by_test (eqb (k (lows b)) (k (highs b)))
    (λ t. rw (t, corner_pieces) (sym (pieces_one k b p (constant_corner b p one (eqb-true (k (lows b)) (k (highs b)) t)))))
    (λ t.
    let x = one_input_convex b one in
    let e = edge_is b p x 64 (omega arith) (eqb-false (k (lows b)) (k (highs b)) t) in
    let s = e.splits in
    let a = above b i (edge 64 k b i) in
    let o = lows_inside a (proper_above s p) in
    let d = class_above p x e (lows a) o in
    let r = between b p one (lows a) (above_within s (lows a) o) in
    rw (t, corner_pieces)
    (rw (pieces_cut p x e)
    (ap (λ (l : List Box). below b i (edge 64 k b i) ∷ l)
    (corner_pieces_lem k i n a (proper_above s p) (one_input_within b a (above_within s) one) (rw (highs_above s) w)
    (rw (highs_above s) (omega arith)) (rw (highs_above s) (omega arith))))))
