-- A box in two lists of one length: its corners, its intervals, and the box with another interval of one input.
-- Assumes nothing.
use mathlib.Core.Path.{◌≡◌, refl, ap, ◌∙◌}
use mathlib.Core.List.{List, [], ◌∷◌}
use Prim.Native.Nat.{ℕ, zero, suc}
use native.Mathlib.Omega.{arith}
use lib.ListN.{length, get_or, set}
use lib.Seq.{set-get_or}
use Rattle.boxes.specs.Boxes.{Box, ◌⋯◌, lows, highs}
use Rattle.boxes.specs.Working.Cuts.{box_in, cut, below}

pub lows_in : (ls hs : List ℕ) → length ls ≡ length hs → lows (box_in ls hs) ≡ ls
unfolding box_in
lows_in [] hs e = refl
lows_in (l ∷ ls) [] e = absurd (omega arith)
lows_in (l ∷ ls) (h ∷ hs) e = cc (lows_in ls hs (omega arith))

pub highs_in : (ls hs : List ℕ) → length ls ≡ length hs → highs (box_in ls hs) ≡ hs
unfolding box_in
highs_in [] [] e = refl
highs_in [] (h ∷ hs) e = absurd (omega arith)
highs_in (l ∷ ls) [] e = absurd (omega arith)
highs_in (l ∷ ls) (h ∷ hs) e = cc (highs_in ls hs (omega arith))

pub cut_in : (ls hs : List ℕ) (i x y : ℕ) → cut (box_in ls hs) i (x ⋯ y) ≡ box_in (set ls i x) (set hs i y)
unfolding box_in
cut_in [] hs i x y = refl
cut_in (l ∷ ls) [] zero x y = refl
cut_in (l ∷ ls) [] (suc i) x y = refl
cut_in (l ∷ ls) (h ∷ hs) zero x y = refl
cut_in (l ∷ ls) (h ∷ hs) (suc i) x y = ap (λ (r : Box). l ⋯ h ∷ r) (cut_in ls hs i x y)

-- the part up to m: only the highest value changes
pub below_in : (ls hs : List ℕ) (i m : ℕ) → length ls ≡ length hs → below (box_in ls hs) i m ≡ box_in ls (set hs i m)
below_in ls hs i m e = rw (lows_in ls hs e) (cut_in ls hs i (get_or ls i 0) m ∙ rw set-get_or)

pub length_in : (ls hs : List ℕ) → length ls ≡ length hs → length (box_in ls hs) ≡ length ls
unfolding box_in
length_in [] hs e = refl
length_in (l ∷ ls) [] e = absurd (omega arith)
length_in (l ∷ ls) (h ∷ hs) e = ap suc (length_in ls hs (omega arith))

pub at_in : (ls hs : List ℕ) → length ls ≡ length hs → (i : ℕ) → get_or (box_in ls hs) i (0 ⋯ 0) ≡ get_or ls i 0 ⋯ get_or hs i 0
unfolding box_in
at_in [] [] e i = refl
at_in [] (h ∷ hs) e i = absurd (omega arith)
at_in (l ∷ ls) [] e i = absurd (omega arith)
at_in (l ∷ ls) (h ∷ hs) e zero = refl
at_in (l ∷ ls) (h ∷ hs) e (suc i) = at_in ls hs (omega arith) i
