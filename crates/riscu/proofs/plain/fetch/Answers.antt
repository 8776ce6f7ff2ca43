use mathlib.Core.Path.{sym, ap, ◌∙◌}
use Rattle.std.proofs.Common.{ltb-true}
use Rattle.std.proofs.lemmas.Grind.{get_or_default_zero}
use borrow.Author.Tests.{eq-eqb, ne_eqb}
use Rattle.riscu.specs.Decode.{decode_of}
use Rattle.riscu.specs.Machine.{fetch}
use Rattle.riscu.proofs.plain.fetch.Goals as goal

pub returns-then-pc-ne0 : goal.returns-then-pc-ne0
unfolding fetch
returns-then-pc-ne0 c = simp (ne_eqb _ _ c.if-pc-ne0.true)

pub returns-in_err-word : goal.returns-in_err-word
unfolding fetch
returns-in_err-word c =
    let l = c.in_err-word.ensures.lookup in
    simp (eq-eqb _ _ c.if-pc-ne0.false, sym l.0) c.from_residual.ensures

pub returns : goal.returns
unfolding fetch
returns c =
    let l = c.in_ok-word.ensures.lookup in
    simp (eq-eqb _ _ c.if-pc-ne0.false, sym l.0) (c.decode.ensures ∙ ap decode_of (l.1 ∙ get_or_default_zero _ _ _ (ltb-true _ _ (sym l.0))))
