use mathlib.Core.Path.{refl, ap, ◌∙◌}
use Prim.Native.Nat.{ℕ}
use Rattle.riscu.specs.Machine.{put_in, operate, step}
use Rattle.words.proofs.Signs.{widen_held}
use Rattle.riscu.proofs.Joins.{join}
use Rattle.riscu.proofs.plain.immediate.Goals as goal

pub returns : goal.returns
unfolding step
returns c =
    let b = widen_held c.ranges.imm c.widen-b.ensures in
    let e = c.operate-v.ensures ∙ (λ j. operate c.args.op (c.register-a.ensures j) (b j)) in
    λ m inputs. join c.next.ensures (c.put.ensures ∙ ap (λ (v : ℕ). put_in c.args.rd v c.args.registers.now) e) refl
