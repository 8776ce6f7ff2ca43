use Rattle.lockstep.specs.Working.LockStep.{advanced_by}
use Rattle.riscu.specs.Decode.{decode_of}
use Rattle.riscu.specs.Machine.{fetch}
use borrow.Author.Tests.{eq-eqb}
use Rattle.straight.proofs.replaying.advance_next.Goals as goal

pub returns-in_default : goal.returns-in_default
unfolding fetch advanced_by
returns-in_default c = simp c.in_default.ensures

pub returns-then-word-eq115 : goal.returns-then-word-eq115
unfolding fetch decode_of advanced_by
returns-then-word-eq115 c =
    let w = c.in-Some.ensures in
    simp (w.0, ← w.1, eq-eqb _ _ c.if-word-eq115.true) c.advance_read.ensures

pub returns : goal.returns
unfolding fetch
returns c =
    let w = c.in-Some.ensures in
    simp (w.0, ← w.1) (rw c.decode.ensures at c.advance_by.ensures)
