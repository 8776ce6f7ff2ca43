-- DIVU and REMU by 0 (document 02, No. 3): where the divisor is 0 for every choice they end at none of the points 4 to 9 and do not
-- fork, whatever the dividend is; the result of DIVU is fixed, and that of REMU is the dividend. An open divisor keeps reason 4.
-- Assumes nothing.
use mathlib.Core.Path.{◌≡◌, refl, sym, ap, ◌∙◌}
use mathlib.Core.Bool.{true, false, not}
use mathlib.Core.Option.{none, some}
use Prim.Native.Nat.{ℕ, ◌+◌}
use native.Mathlib.Omega.{arith}
use lib.Dec.{eqb}
use borrow.Author.Tests.{eq-eqb, le-ltb}
use Rattle.boxes.specs.Boxes.{Choice, Inside, choices, fixed, low, high, lows}
use Rattle.boxes.specs.Working.Cuts.{Proper}
use Rattle.boxes.proofs.Lists.{by_test, map_cong}
use Rattle.boxes.proofs.Choices.{mem_choices, lows_inside}
use Rattle.boxes.proofs.OneInput.{low_is, high_is, constant_fixed}
use Rattle.words.specs.Word.{max_word}
use Rattle.riscu.specs.Machine.{State, reg, operate}
use Rattle.riscu.specs.declared.Operation.{Operation}
use Rattle.riscu.specs.declared.Operation.TheVariants.{Add, Sub, Mul, Divu, Remu, Sltu}
use Rattle.riscu.specs.declared.Instruction.TheVariants.{Register}
use Rattle.listing.specs.Group.{Job, Group, after, View, view_of, sort_of, sorting_of, class_by, class_of}
use Rattle.listing.specs.Ending.{first, open_at, value_at, far_apart, operation_points, operand_points, address_points, points}
use Rattle.listing.specs.declared.Operand.TheVariants.{InRegister}
use Rattle.listing.specs.declared.Reason.TheVariants.{DivisorOpen}
use Rattle.listing.specs.declared.End.TheVariants.{NotFollowed}
use Rattle.corners.specs.Working.Smooth.{Same, EitherOpen}
use Rattle.corners.proofs.Followed.{lowest_at}
use Rattle.corners.proofs.Unforked.{Unforked, one_class}
use Rattle.corners.proofs.ByNumber.{divu_passes, divu_unforked}

-- DIVU and REMU: the operations whose second operand may not be the open one
abbrev pub IsDivision : Operation → Type 0
IsDivision op = ¬ EitherOpen op

-- what holds of both
of_division : (P : Operation → Type 0) → P Divu → P Remu → (op : Operation) → IsDivision op → P op
of_division P p q Add d = absurd (d tt)
of_division P p q Sub d = absurd (d tt)
of_division P p q Mul d = absurd (d tt)
of_division P p q Divu d = p
of_division P p q Remu d = q
of_division P p q Sltu d = absurd (d tt)

class_by_0 : (x y : ℕ) → y ≡ 0 → sort_of Remu x y ≡ 0
unfolding sort_of
class_by_0 x y e = rw (eq-eqb y 0 e)

-- a group in whose box register r is 0 for every choice
module _ (j : Job) (g : Group) (proper : Proper g.box) (r : ℕ)
    (zero : (c : Choice) → Inside c g.box → reg r (after j g.steps c) ≡ 0) where
  same_0 : Same g.box (λ c. reg r (after j g.steps c))
  same_0 c d m n = zero c m ∙ sym (zero d n)

  divisor_closed : open_at (view_of j g) r ≡ false
  divisor_closed = ap not (constant_fixed (λ c. reg r (after j g.steps c)) g.box same_0)

  -- reason 5 asks for two quotients
  no_reason_5 : (q : ℕ) → far_apart (view_of j g) Remu (InRegister q) (InRegister r) ≡ false
  no_reason_5 q =
      let f : Choice → ℕ = λ c. sort_of Remu (reg q (after j g.steps c)) (reg r (after j g.steps c)) in
      let k : (c : Choice) → Inside c g.box → f c ≡ 0 = λ c m. class_by_0 _ _ (zero c m) in
      let l = lows g.box in
      let m = lows_inside g.box proper in
      let a = low_is f g.box l m (λ d n. omega (arith, k l m, k d n)) in
      let b = high_is f g.box l m (λ d n. omega (arith, k l m, k d n)) in
      le-ltb (low f g.box + 1) (high f g.box) (omega (arith, a, b))

  remu_passes : (rd q : ℕ) → first (points (view_of j g) (Register Remu rd q r)) ≡ none
  unfolding points address_points operand_points operation_points sorting_of first
  remu_passes rd q = by_test (eqb rd 0) (λ z. rw z) (λ z. rw (z, divisor_closed, no_reason_5 q))

  pub passes_by_0 : (op : Operation) → IsDivision op → (rd q : ℕ) → first (points (view_of j g) (Register op rd q r)) ≡ none
  passes_by_0 =
      of_division (λ op. (rd q : ℕ) → first (points (view_of j g) (Register op rd q r)) ≡ none)
      (λ rd q. divu_passes (view_of j g) rd q r divisor_closed) remu_passes

  remu_unforked : (rd q : ℕ) → Unforked j g (Register Remu rd q r)
  unfolding class_of class_by sorting_of
  remu_unforked rd q =
      one_class j g (Register Remu rd q r) 0 proper
      (λ c m. by_test (eqb rd 0) (λ z. rw z) (λ z. rw z (class_by_0 _ _ (zero c m))))

  pub unforked_by_0 : (op : Operation) → IsDivision op → (rd q : ℕ) → Unforked j g (Register op rd q r)
  unforked_by_0 =
      of_division (λ op. (rd q : ℕ) → Unforked j g (Register op rd q r))
      (λ rd q. divu_unforked j g proper rd q r) remu_unforked

  -- the result of DIVU is fixed at MAX
  pub quotient_fixed : (q : ℕ) → let f : State → ℕ = λ s. operate Divu (reg q s) (reg r s) in
      ((view_of j g).is_open f ≡ false) × ((view_of j g).lowest f ≡ max_word)
  unfolding operate
  quotient_fixed q =
      let f : State → ℕ = λ s. operate Divu (reg q s) (reg r s) in
      let k : (c : Choice) → Inside c g.box → f (after j g.steps c) ≡ max_word = λ c m. rw (eq-eqb _ 0 (zero c m)) in
      let e : Same g.box (λ c. f (after j g.steps c)) = λ c d m n. k c m ∙ sym (k d n) in
      let m = lows_inside g.box proper in
      (ap not (constant_fixed (λ c. f (after j g.steps c)) g.box e), lowest_at j g f e (lows g.box) m ∙ k (lows g.box) m)

  -- the result of REMU is the dividend: open where it is, with its least and its greatest
  pub remainder_as_dividend : (q : ℕ) → let f : State → ℕ = λ s. operate Remu (reg q s) (reg r s) in
      ((view_of j g).is_open f ≡ open_at (view_of j g) q) × ((view_of j g).lowest f ≡ value_at (view_of j g) q)
      × ((view_of j g).highest f ≡ (view_of j g).highest (reg q))
  unfolding operate fixed low high
  remainder_as_dividend q =
      let f : Choice → ℕ = λ c. operate Remu (reg q (after j g.steps c)) (reg r (after j g.steps c)) in
      let h : Choice → ℕ = λ c. reg q (after j g.steps c) in
      let k : (c : Choice) → Inside c g.box → f c ≡ h c = λ c m. rw (eq-eqb _ 0 (zero c m)) in
      let e = map_cong f h (choices g.box) (λ c m. k c ((mem_choices g.box c).0 m)) in
      rw e (refl, refl, refl)

-- a divisor that is not fixed, not into register 0
division_open : (v : View) (q r : ℕ) → open_at v r ≡ true → (op : Operation) → IsDivision op
    → first (operation_points v op (InRegister q) (InRegister r)) ≡ some (NotFollowed DivisorOpen)
unfolding operation_points first
division_open v q r e =
    of_division (λ op. first (operation_points v op (InRegister q) (InRegister r)) ≡ some (NotFollowed DivisorOpen)) (rw e) (rw e)

pub open_divisor : (v : View) (op : Operation) → IsDivision op → (rd q r : ℕ) → eqb rd 0 ≡ false → open_at v r ≡ true
    → first (points v (Register op rd q r)) ≡ some (NotFollowed DivisorOpen)
unfolding points address_points operand_points sorting_of
open_divisor v op d rd q r z e = rw z (division_open v q r e op d)
