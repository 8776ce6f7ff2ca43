-- Smooth steps: no choice of the box is stopped (points 2 to 9 of the ending order), and all have one class.
use Rattle.std.specs.Prelude.{◌≡◌, ◌⊎◌, ℕ, ◌%◌, ◌≤◌, Some}
use Rattle.std.proofs.Math.Option.{Option, none, some}
use Rattle.boxes.specs.Boxes.{Choice, Box, Inside}
use Rattle.riscu.specs.Machine.{State, reg, offset, fetch}
use Rattle.riscu.specs.declared.Operation.{Operation}
use Rattle.riscu.specs.declared.Operation.TheVariants.{Add, Sub, Mul, Divu, Remu, Sltu}
use Rattle.riscu.specs.declared.Instruction.{Instruction}
use Rattle.riscu.specs.declared.Instruction.TheVariants.{Lui, Immediate, Register, Ld, Sd, Branch, Jal, Jalr, Ecall}
use Rattle.listing.specs.Group.{Job, after, sorting_of, operand, class_of}
use Rattle.listing.specs.Ending.{last_address}
use Rattle.listing.specs.declared.Operand.{Operand}
use Rattle.listing.specs.declared.Sorting.{Sorting}
use Rattle.listing.specs.declared.Sorting.TheVariants.{Operates, Compares, Nothing}

-- every choice of the box gives the same
abbrev pub Same : {A : Type 0} → Box → (Choice → A) → Type 0
Same b f = (c d : Choice) → Inside c b → Inside d b → f c ≡ f d

-- the second operand is the same for every choice, or the first is, where the operation allows it
abbrev pub OneSame : Type 0 → Box → (Choice → ℕ) → (Choice → ℕ) → Type 0
OneSame E b f g = Same b g ⊎ (E × Same b f)

-- the operations whose second operand may be the open one: a divisor may not
abbrev pub EitherOpen : Operation → Type 0
EitherOpen Add = Unit {0}
EitherOpen Sub = Unit {0}
EitherOpen Mul = Unit {0}
EitherOpen Divu = ⊥
EitherOpen Remu = ⊥
EitherOpen Sltu = Unit {0}

-- the operations that are followed with one open register twice (document 02, No. 1)
abbrev pub WithItself : Operation → Type 0
WithItself Add = ⊥
WithItself Sub = Unit {0}
WithItself Mul = ⊥
WithItself Divu = ⊥
WithItself Remu = ⊥
WithItself Sltu = Unit {0}

abbrev pub DataAddress : ℕ → Type 0
DataAddress a = (a % 8 ≡ 0) × (a ≤ last_address)

-- the plain machine completes the instruction: points 5, 6 and 9 do not stop it
abbrev pub Completes : Instruction → State → Type 0
Completes (Lui rd imm) s = Unit {0}
Completes (Immediate op rd rs1 imm) s = Unit {0}
Completes (Register op rd rs1 rs2) s = Unit {0}
Completes (Ld rd rs1 imm) s = DataAddress (offset rs1 imm s)
Completes (Sd rs1 rs2 imm) s = DataAddress (offset rs1 imm s)
Completes (Branch on rs1 rs2 imm) s = Unit {0}
Completes (Jal rd imm) s = Unit {0}
Completes (Jalr rd rs1 imm) s = Unit {0}
Completes Ecall s = (reg 17 s ≡ 63) × (reg 10 s ≡ 0) × (reg 12 s ≡ 8) × DataAddress (reg 11 s)

-- the register that an address is taken from
abbrev pub base_of : Instruction → Option ℕ
base_of (Lui rd imm) = none
base_of (Immediate op rd rs1 imm) = none
base_of (Register op rd rs1 rs2) = none
base_of (Ld rd rs1 imm) = some rs1
base_of (Sd rs1 rs2 imm) = some rs1
base_of (Branch on rs1 rs2 imm) = none
base_of (Jal rd imm) = none
base_of (Jalr rd rs1 imm) = some rs1
base_of Ecall = some 11

module _ (b : Box) (s : Choice → State) where
  -- point 4
  abbrev pub BaseSame : Option ℕ → Type 0
  BaseSame none = Unit {0}
  BaseSame (some r) = Same b (λ c. reg r (s c))

  -- one of two operands is fixed (the first, where E allows it), or both are one register (where I allows it)
  abbrev pub PairSettled : Type 0 → Type 0 → Operand → Operand → Type 0
  PairSettled E I x y = OneSame E b (λ c. operand x (s c).registers) (λ c. operand y (s c).registers) ⊎ (I × (x ≡ y))

  -- points 7 and 8, but for reason 5
  abbrev pub OperandsSettled : Sorting → Type 0
  OperandsSettled (Operates op x y) = PairSettled (EitherOpen op) (WithItself op) x y
  OperandsSettled (Compares x y) = PairSettled (Unit {0}) (Unit {0}) x y
  OperandsSettled Nothing = Unit {0}

  -- the values that must be fixed are
  abbrev pub Settled : Instruction → Type 0
  Settled i = BaseSame (base_of i) × OperandsSettled (sorting_of i)

-- points 2 to 9 do not apply
pub record Followed (j : Job) (b : Box) (n : ℕ) (i : Instruction) : Type 0 where
  pub fetched : (c : Choice) → Inside c b → fetch j.code (after j n c).pc ≡ Some i
  pub completes : (c : Choice) → Inside c b → Completes i (after j n c)
  pub settled : Settled b (after j n) i

pub record Smooth (j : Job) (b : Box) (n : ℕ) : Type 0 where
  pub instruction : Instruction
  pub followed : Followed j b n instruction
  pub class : Same b (λ c. class_of instruction (after j n c))
