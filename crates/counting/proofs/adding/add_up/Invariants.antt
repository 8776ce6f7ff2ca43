-- `counting::adding::add_up` meets its contract: the records from the last to the first, each added where it belongs.
-- Assumes nothing.
use lib.ListN.{drop}
use Rattle.counting.specs.Working.Adding.{parts_in}
use Rattle.counting.proofs.Summed.{Summed}
use Rattle.counting.proofs.adding.add_up.Given as goal

abbrev pub invariant-loop-k : goal.invariant-loop-k
invariant-loop-k l = Summed (drop l.k (parts_in l.inputs l.report l.count)) l.exits.places l.kinds l.exits.used l.varying
