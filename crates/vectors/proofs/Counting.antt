-- A line that agrees counts 0 and one that differs 1, so never more than 1.
-- Assumes nothing.
use mathlib.Core.Path.{◌≡◌}
use mathlib.Core.Bool.{Bool, true, false, cond}
use Prim.Native.Nat.{ℕ, ◌≤◌}
use native.Mathlib.Omega.{arith}

pub counts_once : (agrees : Bool) {r : ℕ} → r ≡ cond agrees 0 1 → r ≤ 1
counts_once true e = omega (arith, e)
counts_once false e = omega (arith, e)
