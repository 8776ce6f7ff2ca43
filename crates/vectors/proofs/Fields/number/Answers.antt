use Rattle.std.proofs.Common.{sym, ap, ◌∙◌, ◌∷◌, drop}
use Rattle.vectors.proofs.Steps.{number_ends, number_goes, number_stops}
use Rattle.vectors.specs.Working.Text.{number_from}
use Rattle.vectors.proofs.Fields.number.Goals as goal

pub returns-in_default-digit-clause-value : goal.returns-in_default-digit-clause-value
returns-in_default-digit-clause-value c =
    let v = c.loop-b.value in
    let e = number_ends c.in-Some.b.now c.in-Some.rest.now v c.in_default-digit.ensures in
    sym (c.loop-b.invariant.0 ∙ ap (λ t. (number_from t v 0).value) c.in-Some.ensures.cases.0 ∙ ap (λ n. n.value) e)

pub returns-in_default-digit-clause-rest : goal.returns-in_default-digit-clause-rest
returns-in_default-digit-clause-rest c =
    let v = c.loop-b.value in
    let e = number_ends c.in-Some.b.now c.in-Some.rest.now v c.in_default-digit.ensures in
    sym (c.loop-b.invariant.1 ∙ ap (λ t. drop (number_from t v 0).next t) c.in-Some.ensures.cases.0 ∙ ap (λ n. drop n.next (c.in-Some.b.now ∷ c.in-Some.rest.now)) e)

pub loop-b-preserved : goal.loop-b-preserved
loop-b-preserved c =
    let v = c.loop-b.value in
    let b = c.in-Some.b.now in
    let bs = c.in-Some.rest.now in
    let d = c.in-Some-digit.ensures in
    let e = number_goes b bs v c.from.result (d.0 ∙ sym c.from.ensures) (rw c.from.ensures d.1) in (
      c.loop-b.invariant.0 ∙ ap (λ t. (number_from t v 0).value) c.in-Some.ensures.cases.0 ∙ ap (λ n. n.value) e,
      c.loop-b.invariant.1 ∙ ap (λ t. drop (number_from t v 0).next t) c.in-Some.ensures.cases.0 ∙ ap (λ n. drop n.next (b ∷ bs)) e,
    )

pub returns-clause-value : goal.returns-clause-value
returns-clause-value c = sym (c.loop-b.invariant.0 ∙ number_stops _ _ c.in_default.ensures.cases)
