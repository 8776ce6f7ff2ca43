use mathlib.Core.Path.{sym, ap, ◌∙◌}
use borrow.Author.Rules.{rules}
use Rattle.std.specs.Prelude.{Option}
use Rattle.riscu.specs.Decode.{rows}
use Rattle.riscu.specs.declared.decoder.Row.{Row}
use Rattle.riscu.specs.Working.Table.{table, form_of}
use Rattle.riscu.proofs.Rows.{hit, miss, past, decoded}
use Rattle.riscu.proofs.decoder.row_of.Goals as goal

pub returns-then-fields_agree : goal.returns-then-fields_agree
unfolding table rows
returns-then-fields_agree c =
    let w = c.args.w in
    let found = sym (c.loop-f.invariant ∙ hit table c.loop-f.f-index w _ (search rules) (sym c.fields_agree.ensures ∙ c.if-fields_agree.true)) in
    record { row = found; form = ap (λ (r : Option Row). form_of r w) found ∙ decoded w }

pub loop-f-preserved : goal.loop-f-preserved
unfolding table rows
loop-f-preserved c =
    c.loop-f.invariant ∙ miss table c.loop-f.f-index c.args.w _ (search rules) (sym c.fields_agree.ensures ∙ c.if-fields_agree.false)

pub returns : goal.returns
returns c =
    let w = c.args.w in
    let found = sym (c.loop-f.invariant ∙ past w c.loop-f.f-index (search rules)) in
    record { row = found; form = ap (λ (r : Option Row). form_of r w) found ∙ decoded w }
