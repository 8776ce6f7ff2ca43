use Rattle.straight.proofs.Taking.{of_row}
use Rattle.riscu.specs.declared.Operation.TheVariants.{Add, Sub, Mul, Divu, Remu, Sltu}
use Rattle.riscu.proofs.Rows.{lui_row, immediate_row, register_row_lem, ld_row, sd_row, branch_row, jal_row}
use Rattle.straight.proofs.rows.straight_row.Goals as goal

pub returns-in-Lui : goal.returns-in-Lui
returns-in-Lui c =
    let a = c.args in
    let z = c.imm_u in
    of_row a.entries a.at _ _ (lui_row a.w c.in-Lui.is z.type_inv z.ensures).1 c.straight_lui.result c.straight_lui.ensures

pub returns-in-Addi : goal.returns-in-Addi
returns-in-Addi c =
    let a = c.args in
    let z = c.imm_i in
    of_row a.entries a.at _ _ (immediate_row a.w c.in-Addi.is z.type_inv z.ensures).1 c.straight_immediate.result c.straight_immediate.ensures

pub returns-in-Add : goal.returns-in-Add
returns-in-Add c =
    let a = c.args in
    of_row a.entries a.at _ _ (register_row_lem a.w Add c.in-Add.is).1 c.straight_operation.result c.straight_operation.ensures

pub returns-in-Sub : goal.returns-in-Sub
returns-in-Sub c =
    let a = c.args in
    of_row a.entries a.at _ _ (register_row_lem a.w Sub c.in-Sub.is).1 c.straight_operation-in-Sub.result c.straight_operation-in-Sub.ensures

pub returns-in-Mul : goal.returns-in-Mul
returns-in-Mul c =
    let a = c.args in
    of_row a.entries a.at _ _ (register_row_lem a.w Mul c.in-Mul.is).1 c.straight_operation-in-Mul.result c.straight_operation-in-Mul.ensures

pub returns-in-Divu : goal.returns-in-Divu
returns-in-Divu c =
    let a = c.args in
    of_row a.entries a.at _ _ (register_row_lem a.w Divu c.in-Divu.is).1 c.straight_operation-in-Divu.result c.straight_operation-in-Divu.ensures

pub returns-in-Remu : goal.returns-in-Remu
returns-in-Remu c =
    let a = c.args in
    of_row a.entries a.at _ _ (register_row_lem a.w Remu c.in-Remu.is).1 c.straight_operation-in-Remu.result c.straight_operation-in-Remu.ensures

pub returns-in-Sltu : goal.returns-in-Sltu
returns-in-Sltu c =
    let a = c.args in
    of_row a.entries a.at _ _ (register_row_lem a.w Sltu c.in-Sltu.is).1 c.straight_operation-in-Sltu.result c.straight_operation-in-Sltu.ensures

pub returns-in-Ld : goal.returns-in-Ld
returns-in-Ld c =
    let a = c.args in
    let z = c.imm_i-in-Ld in
    of_row a.entries a.at _ _ (ld_row a.w c.in-Ld.is z.type_inv z.ensures).1 c.straight_load.result c.straight_load.ensures

pub returns-in-Sd : goal.returns-in-Sd
returns-in-Sd c =
    let a = c.args in
    let z = c.imm_s in
    of_row a.entries a.at _ _ (sd_row a.w c.in-Sd.is z.type_inv z.ensures).1 c.straight_store.result c.straight_store.ensures

pub returns-in-Beq : goal.returns-in-Beq
returns-in-Beq c =
    let a = c.args in
    let z = c.imm_b in
    of_row a.entries a.at _ _ (branch_row a.w c.in-Beq.is z.type_inv z.ensures).1 c.straight_branch.result (c.straight_branch.ensures a.entries)

pub returns-in-Jal : goal.returns-in-Jal
returns-in-Jal c =
    let a = c.args in
    let z = c.imm_j in
    of_row a.entries a.at _ _ (jal_row a.w c.in-Jal.is z.type_inv z.ensures).1 c.straight_jump.result c.straight_jump.ensures
