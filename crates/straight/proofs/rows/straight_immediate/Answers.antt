use Rattle.straight.proofs.Taking.{goes, moves}
use Rattle.listing.specs.Ending.{writes}
use Rattle.corners.specs.Working.Tags.{to_register, tag_step}
use Rattle.lockstep.specs.Working.LockStep.{tags_of}
use Rattle.riscu.specs.declared.Instruction.TheVariants.{Immediate}
use Rattle.words.proofs.Signs.{held, held_is}
use lib.ListN.{get_or}
use mathlib.Core.Path.{refl, sym, ◌∙◌}
use Rattle.straight.proofs.rows.straight_immediate.Goals as goal

pub returns : goal.returns
unfolding writes tag_step
returns c =
    let a = c.args in
    let m = a.m.now in
    let u = c.mark_copied.new.self in
    let left = c.in_ok-writes.ensures in
    let passes = sym c.immediate_points-v.ensures ∙ c.in-Ok.is in
    let same = sym c.immediate_class-a.ensures ∙ c.if-a-b.false ∙ c.immediate_class-b.ensures in
    rw (← held_is a.imm c.ranges.imm.sfits) (
      goes (Immediate a.op a.rd a.rs1 (held a.imm)) passes same (λ b. left.0) left.1,
      moves (Immediate a.op a.rd a.rs1 (held a.imm)) a.at m (to_register a.rd (get_or m.tags a.rs1 0) (tags_of m)) c.mark_copied.ensures (c.immediate-low.ensures u.lowmem) (c.immediate-high.ensures u.highmem) refl (λ b. refl),
    )
