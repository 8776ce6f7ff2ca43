use mathlib.Core.Path.{sym, ap}
use Rattle.std.specs.Prelude.{Some}
use Rattle.riscu.specs.declared.Operation.TheVariants.{Add, Sub, Mul, Divu, Remu, Sltu}
use Rattle.riscu.proofs.Rows.{lui_row, immediate_row, register_row_lem, ld_row, sd_row, branch_row, jal_row, jalr_row, ecall_row, other_row}
use Rattle.riscu.proofs.decoder.instruction.Goals as goal

pub returns-in-Lui : goal.returns-in-Lui
returns-in-Lui c = let z = c.imm_u in sym (lui_row _ c.in-Lui.is z.type_inv z.ensures).1

pub returns-in-Addi : goal.returns-in-Addi
returns-in-Addi c = let z = c.imm_i in sym (immediate_row _ c.in-Addi.is z.type_inv z.ensures).1

pub returns-in-Add : goal.returns-in-Add
returns-in-Add c = rw (c.register.ensures, (register_row_lem c.args.w Add c.in-Add.is).1)

pub returns-in-Sub : goal.returns-in-Sub
returns-in-Sub c = rw (c.register-in-Sub.ensures, (register_row_lem c.args.w Sub c.in-Sub.is).1)

pub returns-in-Mul : goal.returns-in-Mul
returns-in-Mul c = rw (c.register-in-Mul.ensures, (register_row_lem c.args.w Mul c.in-Mul.is).1)

pub returns-in-Divu : goal.returns-in-Divu
returns-in-Divu c = rw (c.register-in-Divu.ensures, (register_row_lem c.args.w Divu c.in-Divu.is).1)

pub returns-in-Remu : goal.returns-in-Remu
returns-in-Remu c = rw (c.register-in-Remu.ensures, (register_row_lem c.args.w Remu c.in-Remu.is).1)

pub returns-in-Sltu : goal.returns-in-Sltu
returns-in-Sltu c = rw (c.register-in-Sltu.ensures, (register_row_lem c.args.w Sltu c.in-Sltu.is).1)

pub returns-in-Ld : goal.returns-in-Ld
returns-in-Ld c = let z = c.imm_i-in-Ld in sym (ld_row _ c.in-Ld.is z.type_inv z.ensures).1

pub returns-in-Sd : goal.returns-in-Sd
returns-in-Sd c = let z = c.imm_s in sym (sd_row _ c.in-Sd.is z.type_inv z.ensures).1

pub returns-in-Beq : goal.returns-in-Beq
returns-in-Beq c = let z = c.imm_b in sym (branch_row _ c.in-Beq.is z.type_inv z.ensures).1

pub returns-in-Jal : goal.returns-in-Jal
returns-in-Jal c = let z = c.imm_j in sym (jal_row _ c.in-Jal.is z.type_inv z.ensures).1

pub returns-in-Jalr : goal.returns-in-Jalr
returns-in-Jalr c = let z = c.imm_i-in-Jalr in sym (jalr_row _ c.in-Jalr.is z.type_inv z.ensures).1

pub returns-then-w-eq115 : goal.returns-then-w-eq115
returns-then-w-eq115 c = sym (ecall_row _ (ap Some c.in-Ecall.is) c.if-w-eq115.true)

pub returns-else-w-eq115 : goal.returns-else-w-eq115
returns-else-w-eq115 c = sym (other_row _ (ap Some c.in-Ecall.is) c.if-w-eq115.false)
