-- A job and its groups: what the plain machine has, for each choice in a group's box, after the group's steps.
use Rattle.std.specs.Prelude.{ℕ, ◌+◌, ◌*◌, ◌/◌, Bool, cond, not, List, ltb, eqb, get_or}
use Rattle.boxes.specs.Boxes.{Box, Choice, low, high, fixed, pieces, lows}
use Rattle.words.specs.Word.{size, widen}
use Rattle.riscu.specs.Machine.{State, start, run}
use Rattle.riscu.specs.declared.Operation.{Operation}
use Rattle.riscu.specs.declared.Operation.TheVariants.{Add, Sub, Mul, Divu, Remu, Sltu}
use Rattle.riscu.specs.declared.Condition.{Condition}
use Rattle.riscu.specs.declared.Condition.TheVariants.{Equal}
use Rattle.riscu.specs.declared.Instruction.{Instruction}
use Rattle.riscu.specs.declared.Instruction.TheVariants.{Lui, Immediate, Register, Ld, Sd, Branch, Jal, Jalr, Ecall}
use Rattle.listing.specs.declared.Operand.{Operand}
use Rattle.listing.specs.declared.Operand.TheVariants.{InRegister, Constant}
use Rattle.listing.specs.declared.Sorting.{Sorting}
use Rattle.listing.specs.declared.Sorting.TheVariants.{Operates, Compares, Nothing}

-- what an accepted call lends the listing; `entries` is the number of table entries
pub record Job : Type 0 where
  pub code : List ℕ
  pub memory : List ℕ
  pub limit : ℕ
  pub box : Box
  pub entries : ℕ

pub record Group : Type 0 where
  pub box : Box
  pub steps : ℕ
  pub used : ℕ

-- the plain machine after n steps, for one choice
unfoldable pub after : Job → ℕ → Choice → State
after j n c = run j.code c n (start j.memory)

-- What a fork rule sorts by: the wrap of a sum or a difference, the quotient of MUL and REMU, the outcome of a comparison. DIVU never
-- forks (document 02, No. 5), nor does REMU by 0 (No. 3).
unfoldable pub sort_of : Operation → ℕ → ℕ → ℕ
sort_of Add a b = (a + b) / size
sort_of Sub a b = cond (ltb a b) 1 0
sort_of Mul a b = a * b / size
sort_of Divu a b = 0
sort_of Remu a b = cond (eqb b 0) 0 (a / b)
sort_of Sltu a b = cond (ltb a b) 1 0

-- less, equal, greater
unfoldable pub comparison : ℕ → ℕ → ℕ
comparison a b = cond (ltb a b) 0 (cond (eqb a b) 1 2)

-- what a branch sorts by
abbrev pub branch_sorting : Condition → Operand → Operand → Sorting
branch_sorting Equal a b = Compares a b

-- What an instruction sorts the choices by: an immediate is a constant operand, and into register 0 nothing is computed.
unfoldable pub sorting_of : Instruction → Sorting
sorting_of (Lui rd imm) = Nothing
sorting_of (Immediate op rd rs1 imm) = cond (eqb rd 0) Nothing (Operates op (InRegister rs1) (Constant (widen imm)))
sorting_of (Register op rd rs1 rs2) = cond (eqb rd 0) Nothing (Operates op (InRegister rs1) (InRegister rs2))
sorting_of (Ld rd rs1 imm) = Nothing
sorting_of (Sd rs1 rs2 imm) = Nothing
sorting_of (Branch on rs1 rs2 imm) = branch_sorting on (InRegister rs1) (InRegister rs2)
sorting_of (Jal rd imm) = Nothing
sorting_of (Jalr rd rs1 imm) = Nothing
sorting_of Ecall = Nothing

-- the value of an operand in a machine's registers
abbrev pub operand : Operand → List ℕ → ℕ
operand (InRegister r) l = get_or l r 0
operand (Constant n) l = n

-- the class of a machine, by its registers; where nothing is sorted there is one class
unfoldable pub class_by : Sorting → List ℕ → ℕ
class_by (Operates op a b) l = sort_of op (operand a l) (operand b l)
class_by (Compares a b) l = comparison (operand a l) (operand b l)
class_by Nothing l = 0

-- its class at an instruction
unfoldable pub class_of : Instruction → State → ℕ
class_of i s = class_by (sorting_of i) s.registers

-- What a move asks of a group: of a value of the machine whether it is open (not fixed), its least and its greatest; pc and inputs
-- read; the pieces into which an instruction sorts the choices.
pub record View : Type 0 where
  pub is_open : (State → ℕ) → Bool
  pub lowest : (State → ℕ) → ℕ
  pub highest : (State → ℕ) → ℕ
  pub pc : ℕ
  pub reads : ℕ
  pub pieces_of : Instruction → List Box

-- the view over all the choices in the group's box; they share pc and inputs read
abbrev pub view_of : Job → Group → View
view_of j g =
    let at : Choice → State = after j g.steps in
    record {
      is_open = λ f. not (fixed (λ c. f (at c)) g.box);
      lowest = λ f. low (λ c. f (at c)) g.box;
      highest = λ f. high (λ c. f (at c)) g.box;
      pc = (at (lows g.box)).pc;
      reads = (at (lows g.box)).reads;
      pieces_of = λ i. pieces (λ c. class_of i (at c)) g.box;
    }
