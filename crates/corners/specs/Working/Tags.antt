-- The tags of a group: the input that each register and each memory word hangs on. They move as the values do.
use Rattle.std.specs.Prelude.{cond, List, ℕ, zero, suc, ◌/◌, eqb, ltb, length, get_or, set, replicate, Option, Some, None}
use Rattle.boxes.specs.Boxes.{Choice, Box, lows, highs}
use Rattle.riscu.specs.Limits.{memory_words}
use Rattle.riscu.specs.Machine.{State, reg, put_in, offset, fetch}
use Rattle.riscu.specs.declared.Instruction.{Instruction}
use Rattle.riscu.specs.declared.Instruction.TheVariants.{Lui, Immediate, Register, Ld, Sd, Branch, Jal, Jalr, Ecall}
use Rattle.listing.specs.Group.{Job, after, sorting_of, operand}
use Rattle.listing.specs.declared.Operand.{Operand}
use Rattle.listing.specs.declared.Operand.TheVariants.{InRegister, Constant}
use Rattle.listing.specs.declared.Sorting.{Sorting}
use Rattle.listing.specs.declared.Sorting.TheVariants.{Operates, Compares, Nothing}

pub record Tags : Type 0 where
  pub registers : List ℕ
  pub memory : List ℕ

abbrev pub to_register : ℕ → ℕ → Tags → Tags
to_register r i t = record { registers = put_in r i t.registers; memory = t.memory }

abbrev pub to_memory : ℕ → ℕ → Tags → Tags
to_memory k i t = record { registers = t.registers; memory = set t.memory k i }

-- the input that an operand hangs on, by the tags of the registers; a constant hangs on none
abbrev pub tag_in : Operand → List ℕ → ℕ
tag_in (InRegister r) t = get_or t r 0
tag_in (Constant n) t = 0

-- the input that the open one of two operands hangs on, from the registers at the low and the high corner
abbrev pub operand_tag : Operand → Operand → List ℕ → List ℕ → List ℕ → ℕ
operand_tag a b l h t = cond (eqb (operand a l) (operand a h)) (tag_in b t) (tag_in a t)

-- the tags after an instruction, from the states at the low and the high corner
unfoldable pub tag_step : Choice → Instruction → State → State → Tags → Tags
tag_step c (Lui rd imm) l h t = to_register rd 0 t
tag_step c (Immediate op rd rs1 imm) l h t = to_register rd (get_or t.registers rs1 0) t
tag_step c (Register op rd rs1 rs2) l h t =
    to_register rd (operand_tag (InRegister rs1) (InRegister rs2) l.registers h.registers t.registers) t
tag_step c (Ld rd rs1 imm) l h t = to_register rd (get_or t.memory (offset rs1 imm l / 8) 0) t
tag_step c (Sd rs1 rs2 imm) l h t = to_memory (offset rs1 imm l / 8) (get_or t.registers rs2 0) t
tag_step c (Branch on rs1 rs2 imm) l h t = t
tag_step c (Jal rd imm) l h t = to_register rd 0 t
tag_step c (Jalr rd rs1 imm) l h t = to_register rd 0 t
tag_step c Ecall l h t = to_register 10 0 (cond (ltb l.reads (length c)) (to_memory (reg 11 l / 8) l.reads t) t)

-- the input that a class hangs on, by what an instruction sorts by
unfoldable pub tag_by : Sorting → List ℕ → List ℕ → List ℕ → ℕ
tag_by (Operates op a b) l h t = operand_tag a b l h t
tag_by (Compares a b) l h t = operand_tag a b l h t
tag_by Nothing l h t = 0

unfoldable pub class_tag : Instruction → State → State → Tags → ℕ
class_tag i l h t = tag_by (sorting_of i) l.registers h.registers t.registers

unfoldable pub tag_decoded : Choice → Option Instruction → State → State → Tags → Tags
tag_decoded c (Some i) l h t = tag_step c i l h t
tag_decoded c None l h t = t

-- the tags after n steps, as a run of the two corners finds them
unfoldable pub tags_at : Job → Box → ℕ → Tags
tags_at j b zero = record { registers = replicate 32 0; memory = replicate memory_words 0 }
tags_at j b (suc n) =
    let l = after j n (lows b) in
    tag_decoded (lows b) (fetch j.code l.pc) l (after j n (highs b)) (tags_at j b n)
