use mathlib.Core.Path.{refl, ◌∙◌}
use Prim.Native.Nat.{◌/◌}
use lib.ListN.{get_or, set}
use Rattle.riscu.specs.Machine.{step}
use Rattle.words.proofs.Signs.{offset_held}
use Rattle.riscu.proofs.Joins.{join}
use Rattle.riscu.proofs.plain.sd.Goals as goal

pub returns : goal.returns
unfolding step
returns c =
    let e = offset_held (get_or c.args.registers.now c.args.rs1 0) c.ranges.imm c.offset-a.ensures in
    let v = c.register-v.ensures in
    λ inputs. join c.next.ensures refl (c.store.ensures ∙ (λ j. set c.args.memory.now (e j / 8) (v j)))
