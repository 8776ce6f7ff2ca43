-- Where none of the points 2 to 9 ends a group, every choice in its box is followed.
-- Assumes nothing.
use mathlib.Core.Path.{◌≡◌, refl, sym, ap, ◌∙◌}
use mathlib.Core.Logic.{◌⊎◌, inl, inr, ⊎_elim}
use mathlib.Core.Bool.{Bool, true, false, not, ◌&&◌, ◌||◌, true≢false, and-eq-true_iff}
use mathlib.Core.List.{[], ◌∷◌}
use mathlib.Core.Option.{none}
use Prim.Native.Nat.{ℕ, ◌%◌}
use native.Mathlib.Omega.{arith}
use lib.Dec.{eqb, ltb}
use lib.IntN.{ℤ}
use borrow.Author.Tests.{eqb-true, ltb-false, not-false}
use Rattle.boxes.specs.Boxes.{Choice, Inside}
use Rattle.boxes.proofs.OneInput.{low_is, fixed_constant}
use Rattle.riscu.specs.Machine.{State, reg, offset}
use Rattle.riscu.specs.declared.Operation.{Operation}
use Rattle.riscu.specs.declared.Operation.TheVariants.{Add, Sub, Mul, Divu, Remu, Sltu}
use Rattle.riscu.specs.declared.Instruction.{Instruction}
use Rattle.riscu.specs.declared.Instruction.TheVariants.{Lui, Immediate, Register, Ld, Sd, Branch, Jal, Jalr, Ecall}
use Rattle.listing.specs.Group.{Job, Group, after, sorting_of, operand, view_of}
use Rattle.listing.specs.Ending.{◌⇒◌, first, last_address, bad_address, same_register, operand_open, both_open, two_open}
use Rattle.listing.specs.Ending.{operation_points, operand_points, address_points, points}
use Rattle.listing.proofs.First.{first_none, first_none_append}
use Rattle.listing.specs.declared.Operand.{Operand}
use Rattle.listing.specs.declared.Operand.TheVariants.{InRegister, Constant}
use Rattle.listing.specs.declared.Sorting.{Sorting}
use Rattle.listing.specs.declared.Sorting.TheVariants.{Operates, Compares, Nothing}
use Rattle.listing.specs.declared.End.{End}
use Rattle.corners.specs.Working.Smooth.{EitherOpen, WithItself, Same, OneSame, DataAddress, Completes, base_of}
use Rattle.corners.specs.Working.Smooth.{BaseSame, PairSettled, OperandsSettled, Settled}

-- tests that fail

and_false : (t u : Bool) → t && u ≡ false → (t ≡ false) ⊎ (u ≡ false)
and_false true u e = inr e
and_false false u e = inl refl

pub or_false : (t u : Bool) → t || u ≡ false → (t ≡ false) × (u ≡ false)
or_false true u e = (e, cc)
or_false false u e = (refl, e)

address_good : (a : ℕ) → bad_address a ≡ false → DataAddress a
address_good a e =
    let (p, q) = or_false (not (eqb (a % 8) 0)) (ltb last_address a) e in
    (eqb-true (a % 8) 0 (not-false (eqb (a % 8) 0) p), ltb-false last_address a q)

same_register_lem : (a b : Operand) → same_register a b ≡ true → a ≡ b
same_register_lem (InRegister r) (InRegister q) e = ap InRegister (eqb-true r q e)
same_register_lem (InRegister r) (Constant n) e = absurd (true≢false (sym e))
same_register_lem (Constant m) b e = absurd (true≢false (sym e))

-- the tests of a read that no point ends
record ReadTests (o₁₇ o₁₀ o₁₁ o₁₂ r z e bad : Bool) : Type 0 where
  open₁₇ : o₁₇ ≡ false
  open₁₀ : o₁₀ ≡ false
  open₁₁ : o₁₁ ≡ false
  open₁₂ : o₁₂ ≡ false
  read : r ≡ true
  zero₁₀ : z ≡ true
  eight₁₂ : e ≡ true
  good : bad ≡ false

read_tests : (o₁₇ o₁₀ o₁₁ o₁₂ r x z e bad : Bool) → o₁₇ || r && (o₁₀ || o₁₁ || o₁₂) ≡ false → not (r || x) || r && not (z && e) ≡ false
    → r && bad ≡ false → x ≡ false → ReadTests o₁₇ o₁₀ o₁₁ o₁₂ r z e bad
read_tests o₁₇ o₁₀ o₁₁ o₁₂ true x z e bad h₁ h₂ h₃ h₄ =
    let (p, q) = or_false o₁₇ (o₁₀ || o₁₁ || o₁₂) h₁ in
    let (t, v) = or_false (o₁₀ || o₁₁) o₁₂ q in
    let (s, u) = or_false o₁₀ o₁₁ t in
    let (y, w) = (and-eq-true_iff z e).0 (not-false (z && e) h₂) in
    record { open₁₇ = p; open₁₀ = s; open₁₁ = u; open₁₂ = v; read = refl; zero₁₀ = y; eight₁₂ = w; good = h₃ }
read_tests o₁₇ o₁₀ o₁₁ o₁₂ false x z e bad h₁ h₂ h₃ h₄ = absurd (true≢false (rw h₄ at h₂))

module _ (j : Job) (g : Group) where
  abbrev pub states : Choice → State
  states = after j g.steps

  pub closed : (f : State → ℕ) → (view_of j g).is_open f ≡ false → Same g.box (λ c. f (states c))
  closed f e = fixed_constant (λ c. f (states c)) g.box (not-false _ e)

  pub lowest_at : (f : State → ℕ) → Same g.box (λ c. f (states c)) → (c : Choice) → Inside c g.box
      → (view_of j g).lowest f ≡ f (states c)
  lowest_at f e c h = low_is (λ c. f (states c)) g.box c h (λ d m. omega (arith, e c d h m))

  pub operand_closed : (a : Operand) → operand_open (view_of j g) a ≡ false → Same g.box (λ c. operand a (states c).registers)
  operand_closed (InRegister r) e = closed (reg r) e
  operand_closed (Constant n) e = λ c d m n. refl

  pub not_both : {E : Type 0} (a b : Operand) → E → both_open (view_of j g) a b ≡ false
      → OneSame E g.box (λ c. operand a (states c).registers) (λ c. operand b (states c).registers)
  not_both a b e h =
      ⊎_elim (λ p. inl (operand_closed b p)) (λ p. inr (e, operand_closed a p))
      (and_false (operand_open (view_of j g) b) (operand_open (view_of j g) a) h)

  not_two : {E I : Type 0} (a b : Operand) → E → I → two_open (view_of j g) a b ≡ false → PairSettled g.box states E I a b
  not_two a b e i h =
      ⊎_elim (λ p. inl (not_both a b e p)) (λ p. inr (i, same_register_lem a b (not-false (same_register a b) p)))
      (and_false (both_open (view_of j g) a b) (not (same_register a b)) h)

  -- the first point of an operation is the one that asks which operands are open
  operation_followed : (op : Operation) (a b : Operand) → first (operation_points (view_of j g) op a b) ≡ none
      → PairSettled g.box states (EitherOpen op) (WithItself op) a b
  unfolding operation_points
  operation_followed Add a b e = inl (not_both a b tt (first_none _ _ e).0)
  operation_followed Sub a b e = not_two a b tt tt (first_none _ _ e).0
  operation_followed Mul a b e = inl (not_both a b tt (first_none _ _ e).0)
  operation_followed Divu a b e = inl (inl (operand_closed b (first_none _ _ e).0))
  operation_followed Remu a b e = inl (inl (operand_closed b (first_none _ _ e).0))
  operation_followed Sltu a b e = not_two a b tt tt (first_none _ _ e).0

  operands_followed : (x : Sorting) → first (operand_points (view_of j g) x) ≡ none → OperandsSettled g.box states x
  unfolding operand_points
  operands_followed (Operates op a b) e = operation_followed op a b e
  operands_followed (Compares a b) e = not_two a b tt tt (first_none _ _ e).0
  operands_followed Nothing e = tt

  -- the base is fixed, and the address is good for every choice
  base_followed : (r : ℕ) (imm : ℤ) (x y : End)
      → first (((view_of j g).is_open (reg r) ⇒ x) ∷ (bad_address ((view_of j g).lowest (offset r imm)) ⇒ y) ∷ []) ≡ none
      → Same g.box (λ c. reg r (states c)) × ((c : Choice) → Inside c g.box → DataAddress (offset r imm (states c)))
  base_followed r imm x y e =
      let (p, d) = first_none _ _ e in
      let s = closed (reg r) p in
      let o : Same g.box (λ c. offset r imm (states c)) = λ c d m n. cc (s c d m n) in
      let a = address_good ((view_of j g).lowest (offset r imm)) (first_none _ _ d).0 in
      (s, λ c m. rw (lowest_at (offset r imm) o c m) at a)

  read_followed : first (address_points (view_of j g) Ecall) ≡ none
      → Same g.box (λ c. reg 11 (states c)) × ((c : Choice) → Inside c g.box → Completes Ecall (states c))
  unfolding address_points
  read_followed e =
      let (h₁, e₁) = first_none _ _ e in
      let (h₂, e₂) = first_none _ _ e₁ in
      let (h₃, e₃) = first_none _ _ e₂ in
      let open₁ : ℕ → Bool = λ r. (view_of j g).is_open (reg r) in
      let value : ℕ → ℕ = λ r. (view_of j g).lowest (reg r) in
      let t = read_tests (open₁ 17) (open₁ 10) (open₁ 11) (open₁ 12) (eqb (value 17) 63) (eqb (value 17) 93) (eqb (value 10) 0)
      (eqb (value 12) 8)
      (bad_address (value 11)) h₁ h₂ h₃ (first_none _ _ e₃).0 in
      let is : (r x : ℕ) → open₁ r ≡ false → eqb (value r) x ≡ true → (c : Choice) → Inside c g.box → reg r (states c) ≡ x =
      λ r x p q c m. sym (lowest_at (reg r) (closed (reg r) p) c m) ∙ eqb-true (value r) x q in
      let s = closed (reg 11) t.open₁₁ in (
        s,
        λ c m. (
          is 17 63 t.open₁₇ t.read c m,
          is 10 0 t.open₁₀ t.zero₁₀ c m,
          is 12 8 t.open₁₂ t.eight₁₂ c m,
          rw (lowest_at (reg 11) s c m) at (address_good (value 11) t.good),
        ),
      )

  address_followed : (i : Instruction) → first (address_points (view_of j g) i) ≡ none
      → BaseSame g.box states (base_of i) × ((c : Choice) → Inside c g.box → Completes i (states c))
  unfolding address_points
  address_followed (Lui rd imm) e = (tt, λ c m. tt)
  address_followed (Immediate op rd rs1 imm) e = (tt, λ c m. tt)
  address_followed (Register op rd rs1 rs2) e = (tt, λ c m. tt)
  address_followed (Ld rd rs1 imm) e = base_followed rs1 imm _ _ e
  address_followed (Sd rs1 rs2 imm) e = base_followed rs1 imm _ _ e
  address_followed (Branch on rs1 rs2 imm) e = (tt, λ c m. tt)
  address_followed (Jal rd imm) e = (tt, λ c m. tt)
  address_followed (Jalr rd rs1 imm) e = (closed (reg rs1) (first_none _ _ e).0, λ c m. tt)
  address_followed Ecall e = read_followed e

  pub points_followed : (i : Instruction) → first (points (view_of j g) i) ≡ none
      → Settled g.box states i × ((c : Choice) → Inside c g.box → Completes i (states c))
  unfolding points
  points_followed i e =
      let (d, f) = first_none_append (address_points (view_of j g) i) (operand_points (view_of j g) (sorting_of i)) e in
      let (b, r) = address_followed i d in
      ((b, operands_followed (sorting_of i) f), r)
