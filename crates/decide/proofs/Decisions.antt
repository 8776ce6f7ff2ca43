-- The decision at the corners is the ending order over the corners' view of a group, and what it says of the step that follows.
-- Assumes nothing.
use mathlib.Core.Path.{◌≡◌, refl, sym, ap, ◌∙◌}
use mathlib.Core.Bool.{Bool, cond}
use mathlib.Core.List.{List, [], ◌∷◌, ◌++◌}
use Prim.Native.Nat.{ℕ, ◌+◌, ◌-◌, ◌≤◌}
use native.Mathlib.Omega.{arith}
use lib.Dec.{eqb, ltb}
use lib.ListN.{length}
use Rattle.boxes.proofs.Lists.{by_test}
use Rattle.riscu.specs.Machine.{State, bad_pc, fetch}
use Rattle.riscu.specs.declared.At.{At}
use Rattle.riscu.specs.declared.Operation.{Operation}
use Rattle.riscu.specs.declared.Operation.TheVariants.{Add, Sub, Mul, Divu, Remu, Sltu}
use Rattle.riscu.specs.declared.Instruction.{Instruction}
use Rattle.riscu.specs.declared.Instruction.TheVariants.{Lui, Immediate, Register, Ld, Sd, Branch, Jal, Jalr, Ecall}
use Rattle.std.specs.Prelude.{Option, Some, None}
use Rattle.listing.specs.Group.{Job, Group, sorting_of, class_of}
use Rattle.listing.specs.Ending.{Point, ◌⇒◌, first, operand_open, operation_points, operand_points, address_points, points}
use Rattle.listing.specs.Ending.{writes, needs, end_at, end_by}
use Rattle.listing.specs.declared.Operand.{Operand}
use Rattle.listing.specs.declared.Operand.TheVariants.{InRegister, Constant}
use Rattle.listing.specs.declared.Sorting.{Sorting}
use Rattle.listing.specs.declared.Sorting.TheVariants.{Operates, Compares, Nothing}
use Rattle.listing.specs.declared.End.TheVariants.{TraceFull}
use Rattle.decide.specs.Working.Corner.{machine, corner_view, verdict, same_class, onward, unless_ends, row_decision, decision, end_in}
use Rattle.decide.specs.declared.Limits.{Limits}
use Rattle.decide.specs.declared.Used.{Used}
use Rattle.decide.specs.declared.Decision.{Decision}
use Rattle.corners.proofs.Needs.{needs_corners}
use Rattle.corners.specs.Working.Good.{low_state, high_state, corners_of}

pub writes_small : (left : Bool) (i : Instruction) → writes left i ≤ 2
unfolding writes
writes_small left (Lui rd imm) = by_test (eqb rd 0) (λ t. rw t (omega arith)) (λ t. rw t (omega arith))
writes_small left (Immediate op rd rs1 imm) = by_test (eqb rd 0) (λ t. rw t (omega arith)) (λ t. rw t (omega arith))
writes_small left (Register op rd rs1 rs2) = by_test (eqb rd 0) (λ t. rw t (omega arith)) (λ t. rw t (omega arith))
writes_small left (Ld rd rs1 imm) = by_test (eqb rd 0) (λ t. rw t (omega arith)) (λ t. rw t (omega arith))
writes_small left (Sd rs1 rs2 imm) = omega arith
writes_small left (Branch on rs1 rs2 imm) = omega arith
writes_small left (Jal rd imm) = by_test (eqb rd 0) (λ t. rw t (omega arith)) (λ t. rw t (omega arith))
writes_small left (Jalr rd rs1 imm) = by_test (eqb rd 0) (λ t. rw t (omega arith)) (λ t. rw t (omega arith))
writes_small left Ecall = by_test left (λ t. rw t (omega arith)) (λ t. rw t (omega arith))

-- the class hangs on the registers alone
pub class_by_registers : (i : Instruction) (s : State) → class_of i (machine s.registers) ≡ class_of i s
unfolding class_of
class_by_registers i s = refl

-- a point after others: the others first
added : (d : Decision) (q : Point) (ps : List Point) → end_in d ≡ first (q ∷ []) → end_in (unless_ends d (verdict ps)) ≡ first (ps ++ (q ∷ []))
unfolding end_in unless_ends verdict first
added d q [] e = e
added d q (p ∷ ps) e = let ih = added d q ps e in by_test p.applies (λ t. rw t) (λ t. rw t ih)

module _ (j : Job) (g : Group) where
  abbrev low : List ℕ
  low = (low_state j g).registers

  abbrev high : List ℕ
  high = (high_state j g).registers

  -- the corners' view of a group asks only the registers
  open_by_registers : (a : Operand) → operand_open (corner_view low high) a ≡ operand_open (corners_of j g) a
  open_by_registers (InRegister r) = refl
  open_by_registers (Constant n) = refl

  operation_by_registers : (op : Operation) (a b : Operand)
      → operation_points (corner_view low high) op a b ≡ operation_points (corners_of j g) op a b
  unfolding operation_points
  operation_by_registers Add a b = cc (open_by_registers a, open_by_registers b)
  operation_by_registers Sub a b = cc (open_by_registers a, open_by_registers b)
  operation_by_registers Mul a b = cc (open_by_registers a, open_by_registers b)
  operation_by_registers Divu a b = cc (open_by_registers b)
  operation_by_registers Remu a b = cc (open_by_registers b)
  operation_by_registers Sltu a b = cc (open_by_registers a, open_by_registers b)

  operands_by_registers : (x : Sorting) → operand_points (corner_view low high) x ≡ operand_points (corners_of j g) x
  unfolding operand_points
  operands_by_registers (Operates op a b) = operation_by_registers op a b
  operands_by_registers (Compares a b) = cc (open_by_registers a, open_by_registers b)
  operands_by_registers Nothing = refl

  address_by_registers : (i : Instruction) → address_points (corner_view low high) i ≡ address_points (corners_of j g) i
  unfolding address_points
  address_by_registers (Lui rd imm) = refl
  address_by_registers (Immediate op rd rs1 imm) = refl
  address_by_registers (Register op rd rs1 rs2) = refl
  address_by_registers (Ld rd rs1 imm) = refl
  address_by_registers (Sd rs1 rs2 imm) = refl
  address_by_registers (Branch on rs1 rs2 imm) = refl
  address_by_registers (Jal rd imm) = refl
  address_by_registers (Jalr rd rs1 imm) = refl
  address_by_registers Ecall = refl

  pub points_by_registers : (i : Instruction) → points (corner_view low high) i ≡ points (corners_of j g) i
  unfolding points
  points_by_registers i = λ k. address_by_registers i k ++ operands_by_registers (sorting_of i) k

  abbrev left : Bool
  left = ltb (low_state j g).reads (length g.box)

  -- point 10, and nothing after it
  onward_ends : (i : Instruction)
      → end_in (onward (j.entries - g.used) left (same_class i low high) i)
      ≡ first ((ltb (j.entries - g.used) (needs g (corners_of j g) i) ⇒ TraceFull) ∷ [])
  unfolding end_in onward first
  onward_ends i =
      let n : writes left i + cond (same_class i low high) 0 1 ≡ needs g (corners_of j g) i =
      (λ k. writes left i + cond (eqb (class_by_registers i (low_state j g) k) (class_by_registers i (high_state j g) k)) 0 1)
      ∙ sym (needs_corners j g i) in
      rw (← n)
      (by_test (ltb (j.entries - g.used) (writes left i + cond (same_class i low high) 0 1))
      (λ t. rw t)
      (λ t. rw t (by_test (same_class i low high) (λ s. rw s) (λ s. rw s))))

  row_ends : (d : Option Instruction) → end_in (row_decision (j.entries - g.used) left low high d) ≡ end_at j g (corners_of j g) d
  unfolding end_in row_decision end_at
  row_ends None = refl
  row_ends (Some i) =
      let q : Point = ltb (j.entries - g.used) (needs g (corners_of j g) i) ⇒ TraceFull in
      added (onward (j.entries - g.used) left (same_class i low high) i) q (points (corner_view low high) i) (onward_ends i)
      ∙ ap (λ (l : List Point). first (l ++ (q ∷ []))) (points_by_registers i)

  -- what the engine holds of the group
  pub record Stands (m : Limits) (u : Used) (a : At) (l h : List ℕ) : Type 0 where
    pub limit : m.steps ≡ j.limit
    pub entries : m.entries ≡ j.entries
    pub inputs : m.inputs ≡ length g.box
    pub steps : u.steps ≡ g.steps
    pub used : u.entries ≡ g.used
    pub pc : a.pc ≡ (low_state j g).pc
    pub reads : a.reads ≡ (low_state j g).reads
    pub low_registers : l ≡ low
    pub high_registers : h ≡ high

  held_limits : Limits
  held_limits = record { steps = j.limit; entries = j.entries; inputs = length g.box }

  held_used : Used
  held_used = record { steps = g.steps; entries = g.used }

  held_at : At
  held_at = record { pc = (low_state j g).pc; reads = (low_state j g).reads }

  decided : end_in (decision j.code held_limits held_used held_at low high) ≡ end_by j g (corners_of j g)
  unfolding end_in decision end_by held_limits held_used held_at
  decided =
      by_test (eqb g.steps j.limit) (λ s. rw s) (λ s. rw s
      (by_test (bad_pc j.code (low_state j g).pc) (λ p. rw p) (λ p. rw p (row_ends (fetch j.code (low_state j g).pc)))))

  pub decision_ends : (m : Limits) (u : Used) (a : At) (l h : List ℕ) → Stands m u a l h
      → end_in (decision j.code m u a l h) ≡ end_by j g (corners_of j g)
  unfolding held_limits held_used held_at
  decision_ends m u a l h s =
      (λ k. end_in (decision j.code
      (record { steps = s.limit k; entries = s.entries k; inputs = s.inputs k })
      (record { steps = s.steps k; entries = s.used k })
      (record { pc = s.pc k; reads = s.reads k })
      (s.low_registers k) (s.high_registers k))) ∙ decided
