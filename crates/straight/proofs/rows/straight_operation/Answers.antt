use Rattle.straight.proofs.Taking.{goes, moves}
use Rattle.listing.specs.Ending.{writes}
use Rattle.corners.specs.Working.Tags.{operand_tag, to_register, tag_step}
use Rattle.listing.specs.declared.Operand.TheVariants.{InRegister}
use Rattle.lockstep.specs.Working.LockStep.{tags_of}
use Rattle.riscu.specs.declared.Instruction.TheVariants.{Register}
use mathlib.Core.Path.{refl, sym, ◌∙◌}
use Rattle.straight.proofs.rows.straight_operation.Goals as goal

pub returns : goal.returns
unfolding writes tag_step
returns c =
    let a = c.args in
    let m = a.m.now in
    let u = c.mark_result.new.self in
    let left = c.in_ok-writes.ensures in
    let passes = sym c.register_points-v.ensures ∙ c.in-Ok.is in
    let same = sym c.operation_class-a.ensures ∙ c.if-a-b.false ∙ c.operation_class-b.ensures in (
      goes (Register a.op a.rd a.rs1 a.rs2) passes same (λ b. left.0) left.1,
      moves (Register a.op a.rd a.rs1 a.rs2) a.at m (to_register a.rd (operand_tag (InRegister a.rs1) (InRegister a.rs2) m.low m.high m.tags) (tags_of m)) c.mark_result.ensures (c.arithmetic-low.ensures u.lowmem) (c.arithmetic-high.ensures u.highmem) refl (λ b. refl),
    )
