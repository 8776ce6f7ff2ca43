use mathlib.Core.Path.{refl}
use Rattle.writing.proofs.Inputs.{storing_none, storing_more, storing_done}
use Rattle.writing.proofs.value_words.put_inputs.Goals as goal

pub loop-i-init : goal.loop-i-init
loop-i-init c =
    let e = c.enumerate-i-items.ensures in
    let s = c.chunks_exact in
    rw (c.into_iter-i-iterator.ensures.into_iter_gives, e.source, e.count) (storing_none _ _ s.result c.args.intervals.now s.ensures.size s.ensures.rest c.requires refl)

pub loop-i-preserved : goal.loop-i-preserved
loop-i-preserved c =
    let h = c.in-Some.ensures.steps in
    rw (c.low_at.ensures, c.high_at.ensures, h.1, h.2) (storing_more _ _ c.in-Some.pair c.loop-i.invariant h.0)

pub returns : goal.returns
returns c = storing_done _ _ c.loop-i.invariant c.in-None.ensures.steps.0
