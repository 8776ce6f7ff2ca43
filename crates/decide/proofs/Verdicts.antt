-- Points tried one by one: the first that applies is the verdict. Assumes nothing.
use Rattle.std.specs.Prelude.{Ok, Err}
use mathlib.Core.Path.{◌≡◌, refl}
use mathlib.Core.List.{List, [], ◌∷◌, ◌++◌}
use Prim.Native.Nat.{ℕ, ◌+◌, ◌-◌, ◌<◌, ◌≤◌, min, max}
use native.Mathlib.Omega.{arith}
use lib.Dec.{ltb}
use lib.IntN.{ℤ}
use Rattle.boxes.proofs.Lists.{by_test}
use Rattle.corners.proofs.Operations.{ltb_same}
use Rattle.riscu.specs.declared.Condition.{Condition}
use Rattle.riscu.specs.declared.Condition.TheVariants.{Equal}
use Rattle.riscu.specs.declared.Instruction.TheVariants.{Branch}
use Rattle.listing.specs.Group.{View, sorting_of}
use Rattle.listing.specs.Ending.{Point, operand_points, address_points, points}
use Rattle.listing.specs.declared.Operand.TheVariants.{InRegister}
use Rattle.listing.specs.declared.Sorting.TheVariants.{Compares}
use Rattle.listing.specs.declared.End.{End}
use Rattle.decide.specs.Working.Corner.{verdict}

-- points after others: the others first
pub ends_first : (ps qs : List Point) (e : End) → verdict ps ≡ Err e → verdict (ps ++ qs) ≡ Err e
unfolding verdict
ends_first [] qs e d = cc
ends_first (p ∷ ps) qs e d = let ih = ends_first ps qs e in by_test p.applies (λ t. rw t (rw t at d)) (λ t. rw t (ih (rw t at d)))

pub passes_first : (ps qs : List Point) (x : Unit) → verdict ps ≡ Ok x → verdict (ps ++ qs) ≡ verdict qs
unfolding verdict
passes_first [] qs x d = refl
passes_first (p ∷ ps) qs x d =
    let ih = passes_first ps qs x in by_test p.applies (λ t. let z = rw t at d in cc) (λ t. rw t (ih (rw t at d)))

-- every branch ends as a comparison of its registers does
pub branch_points : (v : View) (on : Condition) (rs1 rs2 : ℕ) (imm : ℤ)
    → points v (Branch on rs1 rs2 imm) ≡ operand_points v (Compares (InRegister rs1) (InRegister rs2))
unfolding points address_points sorting_of
branch_points v Equal rs1 rs2 imm = refl

-- quotients more than 1 apart, by the difference of the greater and the less
pub apart_rising : (a b : ℕ) → a < b → ltb 1 (b - a) ≡ ltb (min a b + 1) (max a b)
apart_rising a b h = ltb_same 1 (b - a) (min a b + 1) (max a b) (λ k. omega arith) (λ k. omega arith)

pub apart_falling : (a b : ℕ) → b ≤ a → ltb 1 (a - b) ≡ ltb (min a b + 1) (max a b)
apart_falling a b h = ltb_same 1 (a - b) (min a b + 1) (max a b) (λ k. omega arith) (λ k. omega arith)
