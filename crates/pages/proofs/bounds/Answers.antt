use Rattle.boxes.proofs.Filled.{all_filled}
use native.Mathlib.Omega.{arith}
use Rattle.pages.proofs.bounds.Goals as goal

pub returns-clause-lesser_value : goal.returns-clause-lesser_value
returns-clause-lesser_value c = all_filled _ 32 c.loop-r.invariant.0 (omega arith)

pub returns-clause-greater_value : goal.returns-clause-greater_value
returns-clause-greater_value c = all_filled _ 32 c.loop-r.invariant.1 (omega arith)
