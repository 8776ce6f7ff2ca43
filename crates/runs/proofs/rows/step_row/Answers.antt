use mathlib.Core.Path.{ap}
use Rattle.std.specs.Prelude.{Some}
use Rattle.runs.proofs.Steps.{of_row, of_none}
use Rattle.riscu.specs.declared.Operation.TheVariants.{Add, Sub, Mul, Divu, Remu, Sltu}
use Rattle.riscu.proofs.Rows.{lui_row, immediate_row, register_row_lem, ld_row, sd_row, branch_row, jal_row, jalr_row, ecall_row, other_row}
use Rattle.runs.proofs.rows.step_row.Goals as goal

pub returns-in-Lui : goal.returns-in-Lui
returns-in-Lui c =
    let a = c.args in
    let z = c.imm_u in
    of_row a.inputs.now _ (lui_row a.w c.in-Lui.is z.type_inv z.ensures).1 (c.lui.ensures a.memory.now a.inputs.now)

pub returns-in-Addi : goal.returns-in-Addi
returns-in-Addi c =
    let a = c.args in
    let z = c.imm_i in
    of_row a.inputs.now _ (immediate_row a.w c.in-Addi.is z.type_inv z.ensures).1 (c.immediate.ensures a.memory.now a.inputs.now)

pub returns-in-Ld : goal.returns-in-Ld
returns-in-Ld c =
    let a = c.args in
    let z = c.imm_i-in-Ld in
    of_row a.inputs.now _ (ld_row a.w c.in-Ld.is z.type_inv z.ensures).1 (c.ld.ensures a.inputs.now)

pub returns-in-Sd : goal.returns-in-Sd
returns-in-Sd c =
    let a = c.args in
    let z = c.imm_s in
    of_row a.inputs.now _ (sd_row a.w c.in-Sd.is z.type_inv z.ensures).1 (c.sd.ensures a.inputs.now)

pub returns-in-Beq : goal.returns-in-Beq
returns-in-Beq c =
    let a = c.args in
    let z = c.imm_b in
    of_row a.inputs.now _ (branch_row a.w c.in-Beq.is z.type_inv z.ensures).1 (c.branch-registers.ensures a.memory.now a.inputs.now)

pub returns-in-Jal : goal.returns-in-Jal
returns-in-Jal c =
    let a = c.args in
    let z = c.imm_j in
    of_row a.inputs.now _ (jal_row a.w c.in-Jal.is z.type_inv z.ensures).1 (c.jal.ensures a.memory.now a.inputs.now)

pub returns-in-Jalr : goal.returns-in-Jalr
returns-in-Jalr c =
    let a = c.args in
    let z = c.imm_i-in-Jalr in
    of_row a.inputs.now _ (jalr_row a.w c.in-Jalr.is z.type_inv z.ensures).1 (c.jalr.ensures a.memory.now a.inputs.now)

pub returns-in-Add : goal.returns-in-Add
returns-in-Add c =
    let a = c.args in
    of_row a.inputs.now _ (register_row_lem a.w Add c.in-Add.is).1 (c.arithmetic.ensures a.memory.now a.inputs.now)

pub returns-in-Sub : goal.returns-in-Sub
returns-in-Sub c =
    let a = c.args in
    of_row a.inputs.now _ (register_row_lem a.w Sub c.in-Sub.is).1 (c.arithmetic-in-Sub.ensures a.memory.now a.inputs.now)

pub returns-in-Mul : goal.returns-in-Mul
returns-in-Mul c =
    let a = c.args in
    of_row a.inputs.now _ (register_row_lem a.w Mul c.in-Mul.is).1 (c.arithmetic-in-Mul.ensures a.memory.now a.inputs.now)

pub returns-in-Divu : goal.returns-in-Divu
returns-in-Divu c =
    let a = c.args in
    of_row a.inputs.now _ (register_row_lem a.w Divu c.in-Divu.is).1 (c.arithmetic-in-Divu.ensures a.memory.now a.inputs.now)

pub returns-in-Remu : goal.returns-in-Remu
returns-in-Remu c =
    let a = c.args in
    of_row a.inputs.now _ (register_row_lem a.w Remu c.in-Remu.is).1 (c.arithmetic-in-Remu.ensures a.memory.now a.inputs.now)

pub returns-in-Sltu : goal.returns-in-Sltu
returns-in-Sltu c =
    let a = c.args in
    of_row a.inputs.now _ (register_row_lem a.w Sltu c.in-Sltu.is).1 (c.arithmetic-in-Sltu.ensures a.memory.now a.inputs.now)

pub returns-then-w-eq115 : goal.returns-then-w-eq115
returns-then-w-eq115 c = of_row c.args.inputs.now _ (ecall_row _ (ap Some c.in-Ecall.is) c.if-w-eq115.true) c.ecall.ensures

pub returns-else-w-eq115 : goal.returns-else-w-eq115
returns-else-w-eq115 c = of_none _ _ (other_row _ (ap Some c.in-Ecall.is) c.if-w-eq115.false)
