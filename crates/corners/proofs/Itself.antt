-- An instruction that names one register twice (document 02, No. 1): SUB, SLTU and BEQ end at none of the points 4 to 9 and do not
-- fork; SUB and SLTU give 0, and BEQ is taken. The other operations keep their reasons.
-- Assumes nothing.
use mathlib.Core.Path.{◌≡◌, refl}
use mathlib.Core.Bool.{true, false}
use mathlib.Core.List.{List}
use mathlib.Core.Option.{Option, none, some}
use Prim.Native.Nat.{ℕ, ◌+◌}
use lib.Dec.{eqb}
use lib.IntN.{ℤ}
use borrow.Author.Tests.{eq-eqb}
use Rattle.boxes.specs.Working.Cuts.{Proper}
use Rattle.boxes.proofs.Lists.{by_test}
use Rattle.words.specs.Word.{word, widen}
use Rattle.riscu.specs.Machine.{State, reg, put, next, jump, step}
use Rattle.riscu.specs.Working.Whole.{Whole}
use Rattle.riscu.specs.declared.Operation.{Operation}
use Rattle.riscu.specs.declared.Operation.TheVariants.{Add, Sub, Mul, Divu, Remu, Sltu}
use Rattle.riscu.specs.declared.Condition.{Condition}
use Rattle.riscu.specs.declared.Condition.TheVariants.{Equal}
use Rattle.riscu.specs.declared.Instruction.{Instruction}
use Rattle.riscu.specs.declared.Instruction.TheVariants.{Register, Branch}
use Rattle.listing.specs.Group.{Job, Group, after, View, sorting_of, class_by, class_of}
use Rattle.listing.specs.Ending.{first, open_at, two_open, operation_points, operand_points, address_points, points}
use Rattle.listing.specs.declared.Operand.TheVariants.{InRegister}
use Rattle.listing.specs.declared.Reason.TheVariants.{BothOpen, DivisorOpen}
use Rattle.listing.specs.declared.End.{End}
use Rattle.listing.specs.declared.End.TheVariants.{NotFollowed}
use Rattle.corners.specs.Working.Smooth.{WithItself}
use Rattle.corners.proofs.Unforked.{Unforked, one_class}
use Rattle.corners.proofs.Operations.{with_itself, class_itself, result_itself, comparison_itself}

-- no point from 4 to 9 ends the instruction, whatever is open, and it does not fork
pub record AlwaysFollowed (i : Instruction) : Type 0 where
  pub passes : (v : View) → first (points v i) ≡ none
  pub unforked : (j : Job) (g : Group) → Proper g.box → Unforked j g i

not_two_itself : (v : View) (r : ℕ) → two_open v (InRegister r) (InRegister r) ≡ false
not_two_itself v r = by_test (open_at v r) (λ e. rw (e, eq-eqb r r refl)) (λ e. rw e)

operation_passes : (op : Operation) → WithItself op → (v : View) (r : ℕ) → first (operation_points v op (InRegister r) (InRegister r)) ≡ none
unfolding operation_points first
operation_passes =
    with_itself (λ op. (v : View) (r : ℕ) → first (operation_points v op (InRegister r) (InRegister r)) ≡ none)
    (λ v r. rw (not_two_itself v r)) (λ v r. rw (not_two_itself v r))

pub operation_itself : (op : Operation) → WithItself op → (rd r : ℕ) → AlwaysFollowed (Register op rd r r)
unfolding points address_points operand_points sorting_of class_of class_by first
operation_itself op i rd r =
    record {
      passes = λ v. by_test (eqb rd 0) (λ z. rw z) (λ z. rw z (operation_passes op i v r));
      unforked = λ j g p. one_class j g (Register op rd r r) 0 p (λ c m.
          by_test (eqb rd 0) (λ z. rw z) (λ z. rw z (class_itself op i (reg r (after j g.steps c)))));
    }

pub branch_itself : (on : Condition) (r : ℕ) (imm : ℤ) → AlwaysFollowed (Branch on r r imm)
unfolding points address_points operand_points sorting_of class_of class_by first
branch_itself Equal r imm =
    record {
      passes = λ v. rw (not_two_itself v r);
      unforked = λ j g p. one_class j g (Branch Equal r r imm) 1 p (λ c m. comparison_itself (reg r (after j g.steps c)));
    }

pub operation_gives_0 : (op : Operation) → WithItself op → (inputs : List ℕ) (rd r : ℕ) (s : State) → Whole s
    → step inputs (Register op rd r r) s ≡ next s (put rd 0 s) s.memory
unfolding step
operation_gives_0 op i inputs rd r s w = rw (result_itself op i (reg r s) (w.registers.words r))

pub branch_taken : (inputs : List ℕ) (r : ℕ) (imm : ℤ) (s : State)
    → step inputs (Branch Equal r r imm) s ≡ jump s (word (s.pc + widen imm)) s.registers
unfolding step
branch_taken inputs r imm s = rw (eq-eqb (reg r s) (reg r s) refl)

-- the end of an operation on one open register twice
abbrev pub end_itself : Operation → Option End
end_itself Add = some (NotFollowed BothOpen)
end_itself Sub = none
end_itself Mul = some (NotFollowed BothOpen)
end_itself Divu = some (NotFollowed DivisorOpen)
end_itself Remu = some (NotFollowed DivisorOpen)
end_itself Sltu = none

operation_open : (v : View) (op : Operation) (r : ℕ) → open_at v r ≡ true
    → first (operation_points v op (InRegister r) (InRegister r)) ≡ end_itself op
unfolding operation_points first
operation_open v Add r e = rw e
operation_open v Sub r e = operation_passes Sub tt v r
operation_open v Mul r e = rw e
operation_open v Divu r e = rw e
operation_open v Remu r e = rw e
operation_open v Sltu r e = operation_passes Sltu tt v r

pub open_itself : (v : View) (op : Operation) (rd r : ℕ) → eqb rd 0 ≡ false → open_at v r ≡ true
    → first (points v (Register op rd r r)) ≡ end_itself op
unfolding points address_points operand_points sorting_of
open_itself v op rd r z e = rw z (operation_open v op r e)
