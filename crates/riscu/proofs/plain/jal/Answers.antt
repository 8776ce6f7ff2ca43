use mathlib.Core.Path.{refl, ap, ◌∙◌}
use Prim.Native.Nat.{ℕ, ◌+◌}
use Rattle.words.specs.Word.{word}
use Rattle.riscu.specs.Machine.{put_in, step}
use Rattle.words.proofs.Signs.{widen_held}
use Rattle.riscu.proofs.Joins.{join}
use Rattle.riscu.proofs.plain.jal.Goals as goal

pub returns : goal.returns
unfolding step
returns c =
    let e = c.add-2.ensures ∙ ap (λ (k : ℕ). word (c.args.at.pc + k)) (widen_held c.ranges.imm c.widen.ensures) in
    let p = c.put.ensures ∙ ap (λ (v : ℕ). put_in c.args.rd v c.args.registers.now) c.add.ensures in
    λ m inputs. join (λ j. record { pc = e j; reads = c.args.at.reads }) p refl
