use Rattle.explorer.proofs.Resuming.{top_inside, take_steps, take_used, takeable, taken_up}
use Rattle.explorer.specs.Working.Held.{lists}
use Rattle.forks.specs.Working.Stack.{Fork}
use mathlib.Core.Path.{ap}
use native.Mathlib.Omega.{arith}
use Rattle.explorer.proofs.Task.resume.Goals as goal

pub set_interval-requires : goal.set_interval-requires
set_interval-requires c =
    let h = c.requires in
    let n = ap (λ (f : Fork). f.input) h.top in
    let o = top_inside h.held h.between h.some in
    (omega (arith, n, o), omega (arith, n, h.held.fits.paired, o))

pub take_rest-to-requires : goal.take_rest-to-requires
take_rest-to-requires c =
    let i = c.set_interval in
    let r = c.replay-at in
    let n = c.instruction_at-i in
    takeable c.requires i.new.lows i.new.highs i.ensures i.auto.lows i.auto.highs r.new.m r.result r.ensures n.result n.ensures

pub overflow_add-f : goal.overflow_add-f
overflow_add-f c =
    let i = c.set_interval in
    let r = c.replay-at in
    let n = c.instruction_at-i in
    omega (arith, take_steps c.requires i.new.lows i.new.highs i.ensures i.auto.lows i.auto.highs r.new.m r.result r.ensures n.result n.ensures)

pub overflow_add-w : goal.overflow_add-w
overflow_add-w c =
    let i = c.set_interval in
    let r = c.replay-at in
    let n = c.instruction_at-i in
    omega (arith, take_used c.requires i.new.lows i.new.highs i.ensures i.auto.lows i.auto.highs r.new.m r.result r.ensures n.result n.ensures, c.writes-w.ensures, c.well_formed.1.1.1.0.0)

pub overflow_add-f-2 : goal.overflow_add-f-2
overflow_add-f-2 c =
    let i = c.set_interval in
    let r = c.replay-at in
    let n = c.instruction_at-i in
    omega (arith, take_used c.requires i.new.lows i.new.highs i.ensures i.auto.lows i.auto.highs r.new.m r.result r.ensures n.result n.ensures, c.writes-w.ensures, c.well_formed.1.1.1.0.0)

pub returns : goal.returns
returns c =
    let t = c.take_rest-to in
    let v = t.new in
    let i = c.set_interval in
    let r = c.replay-at in
    let n = c.instruction_at-i in
    rw (c.at_group.ensures, c.writes-w.ensures)
    (taken_up c.requires i.new.lows i.new.highs i.ensures i.auto.lows i.auto.highs r.new.m r.result r.ensures n.result n.ensures
    (lists v.lows v.highs v.table v.m) t.result t.auto.table t.ensures)
