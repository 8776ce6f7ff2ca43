use Rattle.pages.specs.Working.Page.{filled}
use Rattle.explorer.specs.Working.Explored.{Explored}
use Rattle.explorer.specs.Working.Held.{lists, job_of, work}
use lib.ListN.{length, drop}
use mathlib.Core.Path.{◌≡◌}
use Rattle.explorer.proofs.Task.run_turns.Given as goal

abbrev pub invariant-loop-self : goal.invariant-loop-self
invariant-loop-self l =
    let x = lists l.lows l.highs l.table l.m in
    Explored (job_of l.self) l.self.limits l.self.window x l.report l.s
    × (drop (filled l.self.limits.inputs l.self.window l.s.paths) l.report ≡ drop (filled l.self.limits.inputs l.self.window l.s.paths) l.initial.report)
    × (length l.lows ≡ length l.initial.lows) × (length l.highs ≡ length l.initial.highs) × (length l.table ≡ length l.initial.table) × (length l.report ≡ length l.initial.report)

abbrev pub decreases-loop-self : goal.decreases-loop-self
decreases-loop-self l =
    work (job_of l.self) (lists l.lows l.highs l.table l.m) l.s
