-- How a path ends: document 01's ten points, in its order. The first that applies decides, with the first reason named there.
-- Point 8 is as document 02, No. 1, has it: with one open register twice SUB, SLTU and BEQ go on; ADD and MUL do not.
-- Points 7 and 8 are as Nos. 3 and 5 have them: DIVU by a fixed number, 0 included, and REMU by 0 end at neither of the two, and MUL by
-- a fixed number ends there with reason 5 alone.
use Rattle.std.specs.Prelude.{ℕ, ◌+◌, ◌-◌, ◌%◌, Bool, false, cond, not, ◌&&◌, ◌||◌, List, [], ◌∷◌, ◌++◌, ltb, eqb, length, ℤ, Option as Maybe, Some, None}
use Rattle.std.proofs.Math.Option.{Option, some}
use Rattle.riscu.specs.Machine.{State, reg, offset, bad_pc, fetch}
use Rattle.riscu.specs.declared.Operation.{Operation}
use Rattle.riscu.specs.declared.Operation.TheVariants.{Add, Sub, Mul, Divu, Remu, Sltu}
use Rattle.riscu.specs.declared.Instruction.{Instruction}
use Rattle.riscu.specs.declared.Instruction.TheVariants.{Lui, Immediate, Register, Ld, Sd, Branch, Jal, Jalr, Ecall}
pub use Rattle.listing.specs.First.{Case, ◌⇒◌}
unfoldable pub use Rattle.listing.specs.First.{first}
use Rattle.listing.specs.Group.{Job, Group, View, view_of, sort_of, sorting_of, operand}
use Rattle.listing.specs.declared.Operand.{Operand}
use Rattle.listing.specs.declared.Operand.TheVariants.{InRegister, Constant}
use Rattle.listing.specs.declared.Sorting.{Sorting}
use Rattle.listing.specs.declared.Sorting.TheVariants.{Operates, Compares, Nothing}
use Rattle.listing.specs.declared.Reason.TheVariants.{BothOpen, DivisorOpen, Quotients, BaseOpen, CallOpen}
use Rattle.listing.specs.declared.End.{End}
use Rattle.listing.specs.declared.End.TheVariants.{Exit, BadPc, BadWord, BadAddress, BadCall, StepLimit, NotFollowed, TraceFull}

-- a point of the order: whether it applies, and the end that it gives
abbrev pub Point : Type 0
Point = Case End

-- the address of the last memory word
abbrev pub last_address : ℕ
last_address = 4088

abbrev pub bad_address : ℕ → Bool
bad_address a = not (eqb (a % 8) 0) || ltb last_address a

-- one register twice
abbrev pub same_register : Operand → Operand → Bool
same_register (InRegister r) (InRegister q) = eqb r q
same_register (InRegister r) (Constant n) = false
same_register (Constant m) b = false

module _ (v : View) where
  -- whether a register is open, and its value: its least, where it is open
  abbrev pub open_at : ℕ → Bool
  open_at r = v.is_open (reg r)

  abbrev pub value_at : ℕ → ℕ
  value_at r = v.lowest (reg r)

  -- point 6 of LD and SD
  abbrev pub bad_access : ℕ → ℤ → Bool
  bad_access r imm = bad_address (v.lowest (offset r imm))

  -- points 4, 5 and 6 of ECALL, by whether its number is read's and whether it is exit's
  abbrev pub call_open : Bool → Bool
  call_open read = open_at 17 || read && (open_at 10 || open_at 11 || open_at 12)

  abbrev pub bad_call : Bool → Bool → Bool
  bad_call read exit = not (read || exit) || read && not (eqb (value_at 10) 0 && eqb (value_at 12) 8)

  abbrev pub bad_read : Bool → Bool
  bad_read read = read && bad_address (value_at 11)

  -- points 4 to 6, and 9: the instructions that take an address from a register, and ECALL
  unfoldable pub address_points : Instruction → List Point
  address_points (Lui rd imm) = []
  address_points (Immediate op rd rs1 imm) = []
  address_points (Register op rd rs1 rs2) = []
  address_points (Ld rd rs1 imm) = (open_at rs1 ⇒ NotFollowed BaseOpen) ∷ (bad_access rs1 imm ⇒ BadAddress) ∷ []
  address_points (Sd rs1 rs2 imm) = (open_at rs1 ⇒ NotFollowed BaseOpen) ∷ (bad_access rs1 imm ⇒ BadAddress) ∷ []
  address_points (Branch on rs1 rs2 imm) = []
  address_points (Jal rd imm) = []
  address_points (Jalr rd rs1 imm) = (open_at rs1 ⇒ NotFollowed BaseOpen) ∷ []
  address_points Ecall =
      let read = eqb (value_at 17) 63 in
      let exit = eqb (value_at 17) 93 in
      (call_open read ⇒ NotFollowed CallOpen)
      ∷ (bad_call read exit ⇒ BadCall)
      ∷ (bad_read read ⇒ BadAddress)
      ∷ (exit ⇒ Exit)
      ∷ []

  -- whether an operand is open; a constant never is
  abbrev pub operand_open : Operand → Bool
  operand_open (InRegister r) = open_at r
  operand_open (Constant n) = false

  -- both operands are open, even one register twice
  abbrev pub both_open : Operand → Operand → Bool
  both_open a b = operand_open b && operand_open a

  -- both operands are open, and they are not one register twice
  abbrev pub two_open : Operand → Operand → Bool
  two_open a b = both_open a b && not (same_register a b)

  -- the quotients at the open value's low and high are more than 1 apart: the quotient rises with the value
  abbrev pub far_apart : Operation → Operand → Operand → Bool
  far_apart op a b =
      let q : State → ℕ = λ s. sort_of op (operand a s.registers) (operand b s.registers) in
      ltb (v.lowest q + 1) (v.highest q)

  -- points 7 and 8 of an operation on two operands
  unfoldable pub operation_points : Operation → Operand → Operand → List Point
  operation_points Add a b = (both_open a b ⇒ NotFollowed BothOpen) ∷ []
  operation_points Sub a b = (two_open a b ⇒ NotFollowed BothOpen) ∷ []
  operation_points Sltu a b = (two_open a b ⇒ NotFollowed BothOpen) ∷ []
  operation_points Mul a b = (both_open a b ⇒ NotFollowed BothOpen) ∷ (far_apart Mul a b ⇒ NotFollowed Quotients) ∷ []
  operation_points Divu a b = (operand_open b ⇒ NotFollowed DivisorOpen) ∷ []
  operation_points Remu a b = (operand_open b ⇒ NotFollowed DivisorOpen) ∷ (far_apart Remu a b ⇒ NotFollowed Quotients) ∷ []

  -- points 7 and 8, by what an instruction sorts by
  unfoldable pub operand_points : Sorting → List Point
  operand_points (Operates op a b) = operation_points op a b
  operand_points (Compares a b) = (two_open a b ⇒ NotFollowed BothOpen) ∷ []
  operand_points Nothing = []

  -- points 4 to 9; no instruction has both an address and operands to sort by
  unfoldable pub points : Instruction → List Point
  points i = address_points i ++ operand_points (sorting_of i)

-- the registers (not 0) and memory words that an instruction writes; read writes its word only where an input is left
unfoldable pub writes : Bool → Instruction → ℕ
writes left (Lui rd imm) = cond (eqb rd 0) 0 1
writes left (Immediate op rd rs1 imm) = cond (eqb rd 0) 0 1
writes left (Register op rd rs1 rs2) = cond (eqb rd 0) 0 1
writes left (Ld rd rs1 imm) = cond (eqb rd 0) 0 1
writes left (Sd rs1 rs2 imm) = 1
writes left (Branch on rs1 rs2 imm) = 0
writes left (Jal rd imm) = cond (eqb rd 0) 0 1
writes left (Jalr rd rs1 imm) = cond (eqb rd 0) 0 1
writes left Ecall = cond left 2 1

-- the trace entries that the step takes: one for each write, and one more if it forks
unfoldable pub needs : Group → View → Instruction → ℕ
needs g v i = writes (ltb v.reads (length g.box)) i + cond (ltb 1 (length (v.pieces_of i))) 1 0

-- The end of a group by a view of it: points 1 and 2, then 3, then 4 to 10.
module _ (j : Job) (g : Group) (v : View) where
  unfoldable pub end_at : Maybe Instruction → Option End
  end_at None = some BadWord
  end_at (Some i) = first (points v i ++ ((ltb (j.entries - g.used) (needs g v i) ⇒ TraceFull) ∷ []))

  unfoldable pub end_by : Option End
  end_by =
      cond (eqb g.steps j.limit) (some StepLimit)
      (cond (bad_pc j.code v.pc) (some BadPc)
      (end_at (fetch j.code v.pc)))

-- the end of a group, or none where it goes on
abbrev pub end_of : Job → Group → Option End
end_of j g = end_by j g (view_of j g)
