-- The entries that a step takes, by the classes at the two corners alone.
-- Assumes nothing.
use mathlib.Core.Path.{◌≡◌, refl}
use mathlib.Core.Bool.{true, false, cond}
use Prim.Native.Nat.{ℕ, zero, suc, ◌+◌, ◌-◌, ◌<◌, min, max}
use native.Mathlib.Omega.{arith}
use lib.Dec.{eqb, ltb}
use lib.ListN.{length}
use borrow.Author.Tests.{eqb-true, eqb-false, lt-ltb}
use Rattle.boxes.specs.Boxes.{Choice, Box, lows, highs}
use Rattle.boxes.specs.Working.Cuts.{above, edge, corner_pieces}
use Rattle.boxes.proofs.Lists.{by_test}
use Rattle.riscu.specs.declared.Instruction.{Instruction}
use Rattle.listing.specs.Group.{Job, Group, class_of, after}
use Rattle.listing.specs.Ending.{writes, needs}
use Rattle.corners.specs.Working.Good.{low_state, high_state, input_of, corners_of}

some_piece : (n : ℕ) (k : Choice → ℕ) (x : ℕ) (b : Box) → 0 < length (corner_pieces n k x b)
unfolding corner_pieces
some_piece zero k x b = omega arith
some_piece (suc n) k x b =
    by_test (eqb (k (lows b)) (k (highs b))) (λ t. rw (t, corner_pieces) (omega arith)) (λ t. rw (t, corner_pieces) (omega arith))

many_pieces : (n : ℕ) (k : Choice → ℕ) (x : ℕ) (b : Box) → eqb (k (lows b)) (k (highs b)) ≡ false
    → ltb 1 (length (corner_pieces (suc n) k x b)) ≡ true
unfolding corner_pieces
many_pieces n k x b t =
    let a = above b x (edge 64 k b x) in
    rw (t, corner_pieces) (lt-ltb 1 (suc (length (corner_pieces n k x a))) (omega (arith, some_piece n k x a)))

one_piece : (k : Choice → ℕ) (x : ℕ) (b : Box) → ltb 1 (length (corner_pieces 0 k x b)) ≡ false
unfolding corner_pieces
one_piece k x b = refl

pub needs_corners : (j : Job) (g : Group) (i : Instruction)
    → needs g (corners_of j g) i
    ≡ writes (ltb (low_state j g).reads (length g.box)) i + cond (eqb (class_of i (low_state j g)) (class_of i (high_state j g))) 0 1
unfolding needs
needs_corners j g i =
    let l = class_of i (low_state j g) in
    let h = class_of i (high_state j g) in
    let k : Choice → ℕ = λ c. class_of i (after j g.steps c) in
    let x = input_of j g i in
    by_test (eqb l h)
    (λ t.
    let e = eqb-true l h t in
    let d : max l h - min l h ≡ 0 = omega arith in
    rw (t, d, one_piece k x g.box))
    (λ t.
    let e = eqb-false l h t in
    let d : max l h - min l h ≡ suc (max l h - min l h - 1) = omega arith in
    rw (d, many_pieces (max l h - min l h - 1) k x g.box t, t))
