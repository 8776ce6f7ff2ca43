-- `reports::placing::place_row` meets its contract: the first record that holds the row.
-- Assumes nothing.
use mathlib.Core.Path.{sym, ◌∙◌}
use native.Mathlib.Omega.{arith}
use Rattle.reports.proofs.Records.{placing_stop, placing_go, placing_end}
use Rattle.reports.proofs.placing.place_row.Goals as goal

pub returns-then-record_holds : goal.returns-then-record_holds
returns-then-record_holds c =
    let l = c.loop-k in
    c.record_word.ensures
    ∙ sym (l.invariant ∙ placing_stop _ _ l.k _ (omega arith) (sym c.record_holds.ensures ∙ c.if-record_holds.true))

pub loop-k-preserved : goal.loop-k-preserved
loop-k-preserved c =
    let l = c.loop-k in
    l.invariant ∙ placing_go _ _ l.k _ (omega arith) (sym c.record_holds.ensures ∙ c.if-record_holds.false)

pub returns : goal.returns
returns c = sym (c.loop-k.invariant ∙ placing_end _ _ c.loop-k.k _ (omega arith))
