use mathlib.Core.Path.{ap, sym, ◌∙◌}
use Rattle.riscu.specs.Machine.{operate}
use Rattle.riscu.specs.declared.Operation.{Operation}
use Rattle.riscu.proofs.plain.operate.Goals as goal

pub returns-in-Add : goal.returns-in-Add
unfolding operate
returns-in-Add c =
    let a = c.args in
    c.add.ensures ∙ ap (λ (o : Operation). operate o a.a a.b) (sym c.in-Add.is)

pub returns-in-Sub : goal.returns-in-Sub
unfolding operate
returns-in-Sub c =
    let a = c.args in
    c.sub.ensures ∙ ap (λ (o : Operation). operate o a.a a.b) (sym c.in-Sub.is)

pub returns-in-Mul : goal.returns-in-Mul
unfolding operate
returns-in-Mul c =
    let a = c.args in
    ap (λ (o : Operation). operate o a.a a.b) (sym c.in-Mul.is)

pub returns-in-Sltu : goal.returns-in-Sltu
unfolding operate
returns-in-Sltu c =
    let a = c.args in
    c.below.ensures ∙ ap (λ (o : Operation). operate o a.a a.b) (sym c.in-Sltu.is)
