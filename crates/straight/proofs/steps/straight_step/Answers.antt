use Rattle.straight.proofs.Taking.{from_word}
use Rattle.straight.proofs.steps.straight_step.Goals as goal

pub returns : goal.returns
returns c =
    let w = c.in_ok-word.ensures in
    from_word _ _ _ _ _ _ c.if-used-limits.false w.0 c.straight_word.result (rw (w.1, c.entries_left.ensures) at c.straight_word.ensures)
