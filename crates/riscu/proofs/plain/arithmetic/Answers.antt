use mathlib.Core.Path.{refl, ap, ◌∙◌}
use Prim.Native.Nat.{ℕ}
use Rattle.riscu.specs.Machine.{put_in, operate, step}
use Rattle.riscu.proofs.Joins.{join}
use Rattle.riscu.proofs.plain.arithmetic.Goals as goal

pub returns : goal.returns
unfolding step
returns c =
    let a = c.args in
    let e = c.operate-v.ensures ∙ (λ j. operate a.op (c.register-a.ensures j) (c.register-b.ensures j)) in
    λ m inputs. join c.next.ensures (c.put.ensures ∙ ap (λ (v : ℕ). put_in a.rd v a.registers.now) e) refl
