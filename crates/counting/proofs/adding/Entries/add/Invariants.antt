-- `counting::adding::Entries::add` meets its contract: the entry goes along the places, and changes with each greater one.
-- Assumes nothing.
use mathlib.Core.Path.{◌≡◌}
use lib.ListN.{length, take}
use Rattle.counting.specs.Working.Adding.{carried, laid}
use Rattle.counting.proofs.Sliding.{Going}
use Rattle.counting.proofs.adding.Entries.add.Given as goal

abbrev pub invariant-loop-i : goal.invariant-loop-i
invariant-loop-i l =
    let before = l.initial.self.places in
    let after = carried l.fn.entry (take l.initial.self.used before) in
    (length l.self.places ≡ length before)
    × (l.self.used ≡ l.initial.self.used)
    × Going l.self.places l.initial.self.used l.i l.carried (laid after before) (length after)
