-- An instruction with one class on a group's box does not fork the group.
-- Assumes nothing.
use mathlib.Core.Path.{◌≡◌, sym, ◌∙◌}
use mathlib.Core.List.{[], ◌∷◌}
use Prim.Native.Nat.{ℕ}
use native.Mathlib.Omega.{arith}
use lib.Dec.{ltb}
use lib.ListN.{length}
use Rattle.boxes.specs.Boxes.{Choice, Inside, lows}
use Rattle.boxes.specs.Working.Cuts.{Proper}
use Rattle.boxes.proofs.Choices.{lows_inside}
use Rattle.boxes.proofs.Pieces.{pieces_one}
use Rattle.riscu.specs.declared.Instruction.{Instruction}
use Rattle.listing.specs.Group.{Job, Group, after, view_of, class_of}
use Rattle.listing.specs.Ending.{writes, needs}

-- one piece, and entries for the writes alone
pub record Unforked (j : Job) (g : Group) (i : Instruction) : Type 0 where
  pub one_piece : (view_of j g).pieces_of i ≡ g.box ∷ []
  pub entries : needs g (view_of j g) i ≡ writes (ltb (view_of j g).reads (length g.box)) i

pub one_class : (j : Job) (g : Group) (i : Instruction) (n : ℕ) → Proper g.box
    → ((c : Choice) → Inside c g.box → class_of i (after j g.steps c) ≡ n) → Unforked j g i
unfolding needs
one_class j g i n p h =
    let k : Choice → ℕ = λ c. class_of i (after j g.steps c) in
    let e : (view_of j g).pieces_of i ≡ g.box ∷ [] =
    pieces_one k g.box p (λ c m. h c m ∙ sym (h (lows g.box) (lows_inside g.box p))) in
    record { one_piece = e; entries = rw e (omega arith) }
