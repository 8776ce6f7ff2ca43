use mathlib.Core.Path.{refl, ap, ◌∙◌}
use Prim.Native.Nat.{ℕ, ◌*◌, ◌/◌}
use lib.ListN.{get_or}
use Rattle.riscu.specs.Machine.{put_in, step}
use Rattle.words.proofs.Signs.{offset_held}
use Rattle.riscu.proofs.Joins.{join}
use Rattle.riscu.proofs.plain.jalr.Goals as goal

pub returns : goal.returns
unfolding step
returns c =
    let e = offset_held (get_or c.args.registers.now c.args.rs1 0) c.ranges.imm c.offset.ensures in
    let p = c.put.ensures ∙ ap (λ (v : ℕ). put_in c.args.rd v c.args.registers.now) c.add.ensures in
    λ m inputs. join (λ j. record { pc = e j / 2 * 2; reads = c.args.at.reads }) p refl
