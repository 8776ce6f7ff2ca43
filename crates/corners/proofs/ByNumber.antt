-- MUL and DIVU by a fixed number, whichever it is (document 02, No. 5). Followed: DIVU by it ends at none of the points 4 to 9 and never
-- forks; MUL by it, from either side, can end with reason 5 alone. Carried forward: the result has its ends where the other operand has
-- its own, for MUL in one class. Cut back: a comparison of the result is one of the other operand, for MUL in one class. Reason 5, of
-- MUL and of REMU, by the quotients that document 01's point 8 names.
-- Assumes nothing.
use mathlib.Core.Path.{◌≡◌, ap}
use mathlib.Core.Bool.{false, cond}
use mathlib.Core.Option.{none, some}
use Prim.Native.Nat.{ℕ, ◌+◌, ◌-◌, ◌*◌, ◌/◌, ◌≤◌, ◌<◌}
use native.Mathlib.Nat.{le-div_iff_mul-le, div-lt_iff_lt-mul, div-add-mod, suc-mul, mul_comm, mul-le-mul_right}
use native.Mathlib.Omega.{arith}
use lib.Dec.{eqb, ltb}
use borrow.Author.Tests.{ne_eqb}
use Rattle.boxes.specs.Boxes.{Choice, Inside, choices, low, high}
use Rattle.boxes.specs.Working.Cuts.{Proper}
use Rattle.boxes.proofs.Lists.{by_test, map_cong}
use Rattle.boxes.proofs.Choices.{mem_choices}
use Rattle.boxes.proofs.OneInput.{low_carried, high_carried}
use Rattle.words.specs.Word.{size, word}
use Rattle.riscu.specs.Machine.{State, reg, operate}
use Rattle.riscu.specs.declared.Operation.TheVariants.{Mul, Divu, Remu}
use Rattle.riscu.specs.declared.Instruction.TheVariants.{Register}
use Rattle.listing.specs.Group.{Job, Group, after, View, view_of, sort_of, sorting_of, class_by, class_of}
use Rattle.listing.specs.Ending.{first, open_at, both_open, far_apart, operation_points, operand_points, address_points, points}
use Rattle.listing.specs.declared.Operand.TheVariants.{InRegister}
use Rattle.listing.specs.declared.Reason.TheVariants.{Quotients}
use Rattle.listing.specs.declared.End.TheVariants.{NotFollowed}
use Rattle.corners.specs.Working.Smooth.{Same}
use Rattle.corners.proofs.Operations.{ltb_same, div_rises, mod_rises}
use Rattle.corners.proofs.Unforked.{Unforked, one_class}

-- Followed.

pub divu_passes : (v : View) (rd q r : ℕ) → open_at v r ≡ false → first (points v (Register Divu rd q r)) ≡ none
unfolding points address_points operand_points operation_points sorting_of first
divu_passes v rd q r e = by_test (eqb rd 0) (λ z. rw z) (λ z. rw (z, e))

pub divu_unforked : (j : Job) (g : Group) → Proper g.box → (rd q r : ℕ) → Unforked j g (Register Divu rd q r)
unfolding class_of class_by sorting_of sort_of
divu_unforked j g p rd q r = one_class j g (Register Divu rd q r) 0 p (λ c m. by_test (eqb rd 0) (λ z. rw z) (λ z. rw z))

pub mul_end : (v : View) (rd q r : ℕ) → eqb rd 0 ≡ false → both_open v (InRegister q) (InRegister r) ≡ false
    → first (points v (Register Mul rd q r)) ≡ cond (far_apart v Mul (InRegister q) (InRegister r)) (some (NotFollowed Quotients)) none
unfolding points address_points operand_points operation_points sorting_of first
mul_end v rd q r z e = rw (z, e)

pub remu_end : (v : View) (rd q r : ℕ) → eqb rd 0 ≡ false → open_at v r ≡ false
    → first (points v (Register Remu rd q r)) ≡ cond (far_apart v Remu (InRegister q) (InRegister r)) (some (NotFollowed Quotients)) none
unfolding points address_points operand_points operation_points sorting_of first
remu_end v rd q r z e = rw (z, e)

pub mul_class : (rd q r : ℕ) (s : State) → eqb rd 0 ≡ false → class_of (Register Mul rd q r) s ≡ reg q s * reg r s / size
unfolding class_of class_by sorting_of sort_of
mul_class rd q r s z = rw z

-- the side of the fixed number does not matter
pub mul_either_side : (x y : ℕ) → (operate Mul x y ≡ operate Mul y x) × (sort_of Mul x y ≡ sort_of Mul y x)
unfolding operate sort_of
mul_either_side x y = (ap word (mul_comm x y), ap (λ (p : ℕ). p / size) (mul_comm x y))

-- Carried forward, in a group in whose box register r is k for every choice.

module _ (j : Job) (g : Group) (proper : Proper g.box) (q r k : ℕ)
    (is : (c : Choice) → Inside c g.box → reg r (after j g.steps c) ≡ k) where
  abbrev value : Choice → ℕ
  value c = reg q (after j g.steps c)

  carried : (f : State → ℕ) (m : ℕ → ℕ) → ((c : Choice) → Inside c g.box → f (after j g.steps c) ≡ m (value c))
      → ((c d : Choice) → Inside c g.box → Inside d g.box → value c ≤ value d → m (value c) ≤ m (value d))
      → ((view_of j g).lowest f ≡ m ((view_of j g).lowest (reg q))) × ((view_of j g).highest f ≡ m ((view_of j g).highest (reg q)))
  unfolding low high
  carried f m same rises =
      let e =
      map_cong (λ c. f (after j g.steps c)) (λ c. m (value c)) (choices g.box) (λ c n. same c ((mem_choices g.box c).0 n)) in
      rw e (low_carried value m g.box proper rises, high_carried value m g.box proper rises)

  pub divu_ends : 0 < k → let f : State → ℕ = λ s. operate Divu (reg q s) (reg r s) in
      ((view_of j g).lowest f ≡ (view_of j g).lowest (reg q) / k) × ((view_of j g).highest f ≡ (view_of j g).highest (reg q) / k)
  unfolding operate
  divu_ends h =
      carried (λ s. operate Divu (reg q s) (reg r s)) (λ x. x / k)
      (λ c m. rw (is c m, ne_eqb k 0 (omega arith))) (λ c d m n l. div_rises k l)

  -- reason 5 by the quotients at the other operand's low and high
  pub mul_apart : far_apart (view_of j g) Mul (InRegister q) (InRegister r)
      ≡ ltb ((view_of j g).lowest (reg q) * k / size + 1) ((view_of j g).highest (reg q) * k / size)
  unfolding sort_of
  mul_apart =
      let (l, h) = carried (λ s. sort_of Mul (reg q s) (reg r s)) (λ x. x * k / size)
      (λ c m. rw (is c m)) (λ c d m n l. div_rises size (mul-le-mul_right k l)) in
      rw (l, h)

  -- by 0 there is one quotient (ByZero)
  pub remu_apart : 0 < k → far_apart (view_of j g) Remu (InRegister q) (InRegister r)
      ≡ ltb ((view_of j g).lowest (reg q) / k + 1) ((view_of j g).highest (reg q) / k)
  unfolding sort_of
  remu_apart above =
      let (l, h) = carried (λ s. sort_of Remu (reg q s) (reg r s)) (λ x. x / k)
      (λ c m. rw (is c m, ne_eqb k 0 (omega arith))) (λ c d m n l. div_rises k l) in
      rw (l, h)

  -- in one class
  pub mul_ends : Same g.box (λ c. value c * k / size) → let f : State → ℕ = λ s. operate Mul (reg q s) (reg r s) in
      ((view_of j g).lowest f ≡ word ((view_of j g).lowest (reg q) * k)) × ((view_of j g).highest f ≡ word ((view_of j g).highest (reg q) * k))
  unfolding operate
  mul_ends s =
      carried (λ s. operate Mul (reg q s) (reg r s)) (λ x. word (x * k))
      (λ c m. rw (is c m)) (λ c d m n l. mod_rises size (mul-le-mul_right k l) (s c d m n))

-- Cut back.

pub divu_compared : (k : ℕ) → 0 < k → (x c : ℕ) → ltb (x / k) c ≡ ltb x (c * k)
divu_compared k h x c = ltb_same (x / k) c x (c * k) (div-lt_iff_lt-mul h).0 (div-lt_iff_lt-mul h).1

-- in class n
pub mul_compared : (k : ℕ) → 0 < k → (n x c : ℕ) → x * k / size ≡ n → ltb (word (x * k)) c ≡ ltb x ((c + n * size + (k - 1)) / k)
mul_compared k h n x c e =
    let d = div-add-mod (x * k) size in
    ltb_same (word (x * k)) c x ((c + n * size + (k - 1)) / k)
    (λ l. (le-div_iff_mul-le h).1 (omega (arith, suc-mul x k, d, e)))
    (λ l. omega (arith, suc-mul x k, d, e, (le-div_iff_mul-le h).0 l))
