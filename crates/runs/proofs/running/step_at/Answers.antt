use mathlib.Core.Path.{sym, ◌∙◌}
use Rattle.std.proofs.Common.{ltb-true}
use Rattle.std.proofs.lemmas.Grind.{get_or_default_zero}
use borrow.Author.Tests.{eq-eqb, ne_eqb}
use Rattle.riscu.specs.Machine.{fetch, step_decoded}
use Rattle.runs.proofs.running.step_at.Goals as goal

pub returns-then-at-ne0 : goal.returns-then-at-ne0
unfolding fetch step_decoded
returns-then-at-ne0 c = simp (ne_eqb _ _ c.if-at-ne0.true)

pub returns-in-Some : goal.returns-in-Some
unfolding fetch
returns-in-Some c =
    let l = c.in-Some.ensures.lookup in
    let word = l.1 ∙ get_or_default_zero _ _ _ (ltb-true _ _ (sym l.0)) in
    simp (eq-eqb _ _ c.if-at-ne0.false, sym l.0) (rw word at c.step_word.ensures)

pub returns-in-None : goal.returns-in-None
unfolding fetch step_decoded
returns-in-None c = let l = c.in-None.ensures.lookup in simp (eq-eqb _ _ c.if-at-ne0.false, sym l.0)
