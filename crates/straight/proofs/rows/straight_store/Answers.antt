use Rattle.straight.proofs.Taking.{goes, moves}
use Rattle.listing.specs.Group.{sorting_of, class_by, class_of}
use Rattle.listing.specs.Ending.{operand_points, address_points, points, writes}
use Rattle.decide.specs.Working.Corner.{verdict}
use Rattle.corners.specs.Working.Tags.{to_memory, tag_step}
use Rattle.lockstep.specs.Working.LockStep.{tags_of}
use Rattle.riscu.specs.declared.Instruction.TheVariants.{Sd}
use Rattle.words.specs.Word.{word, widen}
use Rattle.words.proofs.Signs.{held, held_is}
use Prim.Native.Nat.{◌+◌, ◌/◌}
use lib.ListN.{get_or}
use mathlib.Core.Path.{refl, sym, ◌∙◌}
use Rattle.straight.proofs.rows.straight_store.Goals as goal

pub returns : goal.returns
unfolding points address_points sorting_of operand_points verdict class_of class_by writes tag_step
returns c =
    let a = c.args in
    let m = a.m.now in
    let passes = sym c.access_points-v.ensures ∙ c.in-Ok.is in
    rw (← held_is a.imm c.ranges.imm.sfits) (
      goes (Sd a.rs1 a.rs2 (held a.imm)) passes refl (λ b. refl) c.if-entries-lt1.false,
      moves (Sd a.rs1 a.rs2 (held a.imm)) a.at m (to_memory (word (get_or m.low a.rs1 0 + widen (held a.imm)) / 8) (get_or m.tags a.rs2 0) (tags_of m)) c.mark_stored.ensures c.sd-low.ensures c.sd-high.ensures refl (λ b. refl),
    )
