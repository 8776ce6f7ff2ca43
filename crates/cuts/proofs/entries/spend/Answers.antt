use native.Mathlib.Omega.{arith}
use Rattle.forks.proofs.Table.{forks_spend}
use Rattle.cuts.proofs.entries.spend.Goals as goal

pub returns : goal.returns
returns c = forks_spend c.args.table.now c.args.n (omega arith)
