use mathlib.Core.Path.{refl, sym, ap, ◌∙◌}
use Prim.Native.Nat.{ℕ, ◌+◌}
use Rattle.words.specs.Word.{word}
use Rattle.riscu.specs.Machine.{taken, step}
use Rattle.words.proofs.Signs.{widen_held}
use Rattle.riscu.proofs.Joins.{join}
use Rattle.riscu.proofs.plain.branch.Goals as goal

pub returns-then-taken : goal.returns-then-taken
unfolding step
returns-then-taken c =
    let e = c.add.ensures ∙ ap (λ (k : ℕ). word (c.args.at.pc + k)) (widen_held c.ranges.imm c.widen.ensures) in
    let q = c.taken.ensures ∙ (λ j. taken c.args.on (c.register-a.ensures j) (c.register-b.ensures j)) in
    λ m inputs.
    rw (sym q ∙ c.if-taken.true)
    (join (λ j. record { pc = e j; reads = c.args.at.reads }) refl refl)

pub returns-else-taken : goal.returns-else-taken
unfolding step
returns-else-taken c =
    let q = c.taken.ensures ∙ (λ j. taken c.args.on (c.register-a.ensures j) (c.register-b.ensures j)) in
    λ m inputs.
    rw (sym q ∙ c.if-taken.false)
    (join c.next.ensures refl refl)
