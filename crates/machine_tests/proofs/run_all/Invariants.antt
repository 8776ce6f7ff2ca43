-- Each line that was counted took a byte of the text.
use Rattle.std.proofs.Common.{◌+◌, ◌≤◌, length}
use Rattle.machine_tests.proofs.run_all.Given as goal

abbrev pub invariant-loop-line : goal.invariant-loop-line
invariant-loop-line g l =
    (goal.iterator-loop-line g).can_next l.line-iterator
    × (goal.iterator-loop-line g).is_finite l.line-iterator
    × (l.tally.lines + length l.line-iterator.rest.now ≤ length l.text)
    × (l.before ≤ l.tally.lines)
