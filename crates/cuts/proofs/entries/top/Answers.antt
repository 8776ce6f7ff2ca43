use native.Mathlib.Nat.{add-zero}
use Rattle.forks.specs.Working.Table.{fork_in}
use Rattle.cuts.proofs.entries.top.Goals as goal

pub returns : goal.returns
unfolding fork_in
returns c = rw add-zero
