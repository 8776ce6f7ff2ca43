use Rattle.explorer.proofs.Explored.{explored_halted, explored_dropped}
use Rattle.explorer.proofs.Resuming.{top_inside, top_entry}
use Rattle.cuts.specs.Working.Entries.{fork_held}
use Rattle.forks.specs.Working.Stack.{Fork}
use mathlib.Core.Bool.{true, false}
use mathlib.Core.Path.{sym, ap, ◌∙◌}
use native.Mathlib.Omega.{arith}
use Rattle.explorer.proofs.Task.rest_turn.Goals as goal

pub returns-then-s-eq0 : goal.returns-then-s-eq0
returns-then-s-eq0 c =
    record { onto = λ report e. rw c.halted.ensures (explored_halted e c.requires.phase_value false c.if-s-eq0.true) }

pub top-f-requires : goal.top-f-requires
top-f-requires c =
    top_entry c.requires.fact c.requires.phase_value (omega (arith, c.if-s-eq0.false))

pub set_interval-requires : goal.set_interval-requires
set_interval-requires c =
    let h = c.requires.fact in
    let n = ap (λ (f : Fork). f.input) c.top-f.ensures in
    let o = top_inside h c.requires.phase_value (omega (arith, c.if-s-eq0.false)) in
    (omega (arith, n, o), omega (arith, n, h.fits.paired, o))

pub returns-then-f : goal.returns-then-f
returns-then-f c =
    let f = c.top-f in
    let i = c.set_interval in
    record {
      onto = λ report e.
          explored_dropped e c.requires.phase_value (omega (arith, c.if-s-eq0.false)) (fork_held f.result) f.ensures c.if-f.true _ _
          i.ensures i.auto.lows i.auto.highs;
    }

pub returns-then-s-self : goal.returns-then-s-self
returns-then-s-self c =
    let unspent = sym (ap (λ (f : Fork). f.spent) c.top-f.ensures) ∙ c.if-f.false in
    record {
      onto = λ report e.
          rw c.halted-then-s-self.ensures
          (explored_halted e c.requires.phase_value true (omega (arith, c.if-s-eq0.false), unspent, c.if-s-self.true));
    }
