use Rattle.riscu.specs.Working.Parts.{state}
use Rattle.riscu.specs.declared.Instruction.TheVariants.{Lui, Immediate, Branch, Jal, Jalr}
use Rattle.riscu.proofs.Joins.{by_held}
use borrow.Author.Rules.{rules}
use Rattle.riscu.proofs.plain.step.Goals as goal

pub returns-in-Lui : goal.returns-in-Lui
returns-in-Lui c =
    let a = c.args in
    by_held a.inputs.now (state a.at a.registers.now a.memory.now) (Lui c.in-Lui.rd) c.in-Lui.imm (search rules) c.in-Lui.is (c.lui.ensures a.memory.now a.inputs.now)

pub returns-in-Immediate : goal.returns-in-Immediate
returns-in-Immediate c =
    let a = c.args in
    by_held a.inputs.now (state a.at a.registers.now a.memory.now) (Immediate c.in-Immediate.op c.in-Immediate.rd c.in-Immediate.rs1) c.in-Immediate.imm (search rules) c.in-Immediate.is (c.immediate.ensures a.memory.now a.inputs.now)

pub returns-in-Branch : goal.returns-in-Branch
returns-in-Branch c =
    let a = c.args in
    by_held a.inputs.now (state a.at a.registers.now a.memory.now) (Branch c.in-Branch.on c.in-Branch.rs1 c.in-Branch.rs2) c.in-Branch.imm (search rules) c.in-Branch.is (c.branch-registers.ensures a.memory.now a.inputs.now)

pub returns-in-Jal : goal.returns-in-Jal
returns-in-Jal c =
    let a = c.args in
    by_held a.inputs.now (state a.at a.registers.now a.memory.now) (Jal c.in-Jal.rd) c.in-Jal.imm (search rules) c.in-Jal.is (c.jal.ensures a.memory.now a.inputs.now)

pub returns-in-Jalr : goal.returns-in-Jalr
returns-in-Jalr c =
    let a = c.args in
    by_held a.inputs.now (state a.at a.registers.now a.memory.now) (Jalr c.in-Jalr.rd c.in-Jalr.rs1) c.in-Jalr.imm (search rules) c.in-Jalr.is (c.jalr.ensures a.memory.now a.inputs.now)
