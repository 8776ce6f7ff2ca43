use Rattle.straight.proofs.Taking.{goes, moves}
use Rattle.listing.specs.Group.{sorting_of, class_by, class_of}
use Rattle.listing.specs.Ending.{operand_points, address_points, points, writes}
use Rattle.decide.specs.Working.Corner.{verdict}
use Rattle.corners.specs.Working.Tags.{to_register, tag_step}
use Rattle.lockstep.specs.Working.LockStep.{tags_of}
use Rattle.riscu.specs.declared.Instruction.TheVariants.{Jal}
use Rattle.words.proofs.Signs.{held, held_is}
use mathlib.Core.Path.{refl, ap}
use mathlib.Core.List.{List}
use Prim.Native.Nat.{ℕ}
use Rattle.straight.proofs.rows.straight_jump.Goals as goal

pub returns : goal.returns
unfolding points address_points sorting_of operand_points verdict class_of class_by writes tag_step
returns c =
    let a = c.args in
    let m = a.m.now in
    let t = to_register a.rd 0 (tags_of m) in
    let left = c.in_ok-writes.ensures in
    rw (← held_is a.imm c.ranges.imm.sfits) (
      goes (Jal a.rd (held a.imm)) refl refl (λ b. left.0) left.1,
      moves (Jal a.rd (held a.imm)) a.at m t (ap (λ (r : List ℕ). record m { tags = r }) c.put.ensures) (c.jal-low.ensures m.lowmem) (c.jal-high.ensures m.highmem) refl (λ b. refl),
    )
