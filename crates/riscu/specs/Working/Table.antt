-- The instruction table as the code holds it: a constant array of fields, and what a word is as a word of each row.
use Rattle.std.specs.Prelude.{ℕ, ◌%◌, Bool, cond, ◌&&◌, List, [], ◌∷◌, ◌++◌, eqb, Option, Some, None}
use Rattle.riscu.specs.Decode.{bits, Field, any, is, fits, Format, rows, ecall_word, rd_of, rs1_of, rs2_of, imm_i, imm_s, imm_b, imm_u, imm_j}
use Rattle.riscu.specs.declared.Operation.{Operation}
use Rattle.riscu.specs.declared.Operation.TheVariants.{Add, Sub, Mul, Divu, Remu, Sltu}
use Rattle.riscu.specs.declared.Condition.TheVariants.{Equal}
use Rattle.riscu.specs.declared.Instruction.{Instruction}
use Rattle.riscu.specs.declared.Instruction.TheVariants.{Lui, Immediate, Register, Ld, Sd, Branch, Jal, Jalr, Ecall}
use Rattle.riscu.specs.declared.decoder.Row.{Row}
use Rattle.riscu.specs.declared.decoder.Fields.{Fields}
use Rattle.riscu.specs.declared.decoder.Row.TheVariants.{Lui as LUI, Addi as ADDI, Add as ADD, Sub as SUB, Mul as MUL, Divu as DIVU, Remu as REMU, Sltu as SLTU, Ld as LD, Sd as SD, Beq as BEQ, Jal as JAL, Jalr as JALR, Ecall as ECALL}

abbrev pub register_of : Operation → ℕ → Instruction
register_of op w = Register op (rd_of w) (rs1_of w) (rs2_of w)

unfoldable pub instruction_of : Row → ℕ → Instruction
instruction_of LUI w = Lui (rd_of w) (imm_u w)
instruction_of ADDI w = Immediate Add (rd_of w) (rs1_of w) (imm_i w)
instruction_of ADD w = register_of Add w
instruction_of SUB w = register_of Sub w
instruction_of MUL w = register_of Mul w
instruction_of DIVU w = register_of Divu w
instruction_of REMU w = register_of Remu w
instruction_of SLTU w = register_of Sltu w
instruction_of LD w = Ld (rd_of w) (rs1_of w) (imm_i w)
instruction_of SD w = Sd (rs1_of w) (rs2_of w) (imm_s w)
instruction_of BEQ w = Branch Equal (rs1_of w) (rs2_of w) (imm_b w)
instruction_of JAL w = Jal (rd_of w) (imm_j w)
instruction_of JALR w = Jalr (rd_of w) (rs1_of w) (imm_i w)
instruction_of ECALL w = Ecall

-- what a word is as a word of a row, or as one of none; ECALL is one whole word
abbrev pub form_of : Option Row → ℕ → Option Instruction
form_of None w = None
form_of (Some ECALL) w = cond (eqb w ecall_word) (Some Ecall) None
form_of (Some r) w = Some (instruction_of r w)

-- a field as the code holds it: none is any
abbrev pub field_of : Option ℕ → Field
field_of None = any
field_of (Some n) = is n

abbrev pub agrees : Fields → ℕ → Bool
agrees f w = eqb (w % 128) f.opcode && fits (field_of f.funct3) (bits 12 3 w) && fits (field_of f.funct7) (bits 25 7 w)

-- a field as the code holds it
abbrev held_field : Field → Option ℕ
held_field any = None
held_field (is n) = Some n

abbrev fields : Row → Format → Fields
fields r f = record { row = r; opcode = f.opcode; funct3 = held_field f.funct3; funct7 = held_field f.funct7 }

abbrev fields_of : Row → ℕ → Fields
fields_of r w = record { row = r; opcode = bits 0 7 w; funct3 = Some (bits 12 3 w); funct7 = Some (bits 25 7 w) }

-- the rows by their names
abbrev named : List Row → List Format → List Fields
named [] fs = []
named (r ∷ rs) [] = []
named (r ∷ rs) (f ∷ fs) = fields r f ∷ named rs fs

abbrev names : List Row
names = LUI ∷ ADDI ∷ ADD ∷ SUB ∷ MUL ∷ DIVU ∷ REMU ∷ SLTU ∷ LD ∷ SD ∷ BEQ ∷ JAL ∷ JALR ∷ []

-- the rows, and the last one's word
unfoldable pub table : List Fields
table = named names rows ++ (fields_of ECALL ecall_word ∷ [])

-- the first of the rows that w matches
unfoldable pub find_row : List Fields → ℕ → Option Row
find_row [] w = None
find_row (f ∷ fs) w = cond (agrees f w) (Some f.row) (find_row fs w)

abbrev pub row_of : ℕ → Option Row
row_of w = find_row table w
