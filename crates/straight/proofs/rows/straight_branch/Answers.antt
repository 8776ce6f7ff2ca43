use Rattle.straight.proofs.Taking.{goes, moves}
use Rattle.listing.specs.Group.{sorting_of, class_of}
use Rattle.listing.specs.Ending.{writes}
use Rattle.decide.specs.Working.Corner.{corner_view, verdict}
use Rattle.decide.proofs.Verdicts.{branch_points}
use Rattle.corners.specs.Working.Tags.{tag_step}
use Rattle.lockstep.specs.Working.LockStep.{tags_of}
use Rattle.riscu.specs.declared.Instruction.TheVariants.{Branch}
use Rattle.words.proofs.Signs.{held, held_is}
use mathlib.Core.Path.{refl, sym, ap, ◌∙◌}
use native.Mathlib.Omega.{arith}
use Rattle.straight.proofs.rows.straight_branch.Goals as goal

pub returns : goal.returns
unfolding sorting_of class_of writes tag_step
returns c =
    let a = c.args in
    let m = a.m.now in
    let as-compared = branch_points (corner_view m.low m.high) a.on a.rs1 a.rs2 (held a.imm) in
    let passes = ap verdict as-compared ∙ sym c.open_points-v.ensures ∙ c.in-Ok.is in
    let same = sym c.branch_class-a.ensures ∙ c.if-a-b.false ∙ c.branch_class-b.ensures in
    rw (← held_is a.imm c.ranges.imm.sfits) (λ entries. (
      goes (Branch a.on a.rs1 a.rs2 (held a.imm)) passes same (λ b. refl) (omega arith),
      moves (Branch a.on a.rs1 a.rs2 (held a.imm)) a.at m (tags_of m) refl (c.branch-low.ensures m.lowmem) (c.branch-high.ensures m.highmem) refl (λ b. refl),
    ))
