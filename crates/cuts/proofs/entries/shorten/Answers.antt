use native.Mathlib.Omega.{arith}
use Rattle.forks.proofs.Table.{forks_rest}
use Rattle.cuts.proofs.entries.shorten.Goals as goal

pub returns : goal.returns
returns c = forks_rest c.args.table.now c.args.n c.args.rest (omega arith)
