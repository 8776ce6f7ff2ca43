use Rattle.pages.proofs.Page.{kept_later}
use mathlib.Core.Path.{◌∙◌}
use Rattle.explorer.proofs.Task.run_turns.Goals as goal

pub loop-self-preserved : goal.loop-self-preserved
loop-self-preserved c =
    let t = c.turn-s in
    let l = c.loop-self in (
      t.ensures.explored,
      t.ensures.kept ∙ kept_later c.args.self.limits.inputs c.args.self.window l.s.paths t.result.paths _ _ t.ensures.paths l.invariant.1,
      t.auto.lows ∙ l.invariant.2,
      t.auto.highs ∙ l.invariant.3,
      t.auto.table ∙ l.invariant.4,
      t.auto.report ∙ l.invariant.5,
    )
