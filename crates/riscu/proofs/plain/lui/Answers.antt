use mathlib.Core.Path.{refl, ap, ◌∙◌}
use Prim.Native.Nat.{ℕ}
use Rattle.riscu.specs.Machine.{put_in, step}
use Rattle.words.proofs.Signs.{widen_held}
use Rattle.riscu.proofs.Joins.{join}
use Rattle.riscu.proofs.plain.lui.Goals as goal

pub returns : goal.returns
unfolding step
returns c =
    let e = widen_held c.ranges.imm c.widen.ensures in
    λ m inputs. join c.next.ensures (c.put.ensures ∙ ap (λ (v : ℕ). put_in c.args.rd v c.args.registers.now) e) refl
