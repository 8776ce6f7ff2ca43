-- The entries that a straight step takes. Assumes nothing.
use mathlib.Core.Path.{◌≡◌}
use mathlib.Core.Bool.{Bool, true, false, cond}
use mathlib.Core.List.{List}
use Prim.Native.Nat.{ℕ, ◌+◌, ◌-◌, ◌≤◌}
use native.Mathlib.Omega.{arith}
use lib.Dec.{eqb, ltb}
use borrow.Author.Tests.{ltb-false}
use Rattle.boxes.proofs.Lists.{by_test}
use Rattle.riscu.specs.Machine.{bad_pc, fetch}
use Rattle.riscu.specs.declared.At.{At}
use Rattle.riscu.specs.declared.Instruction.{Instruction}
use Rattle.std.specs.Prelude.{Option, Some, None}
use Rattle.listing.specs.Ending.{points, writes}
use Rattle.decide.specs.Working.Corner.{corner_view, verdict, same_class, onward, unless_ends, row_decision, decision}
use Rattle.decide.specs.declared.Limits.{Limits}
use Rattle.decide.specs.declared.Used.{Used}
use Rattle.listing.specs.declared.End.{End}
use Rattle.std.specs.Prelude.{Result, Ok, Err}
use Rattle.decide.specs.declared.Decision.{Decision}
use Rattle.decide.specs.declared.Decision.TheVariants.{Ended, Steps, Forks}
use Rattle.lockstep.specs.declared.Machines.{Machines}
use Rattle.lockstep.specs.declared.Corners.{Corners}
use Rattle.straight.specs.Working.Stepped.{Decided}

-- a step that is decided on takes no more entries than are left
module _ (entries : ℕ) (left : Bool) where
  abbrev Within : Decision → Type 0
  Within (Ended e) = Unit {0}
  Within (Steps i) = writes left i ≤ entries
  Within (Forks i) = Unit {0}

  onward_within : (same : Bool) (i : Instruction) → Within (onward entries left same i)
  unfolding onward
  onward_within same i = by_test (ltb entries (writes left i + cond same 0 1)) (λ t. rw t tt) (λ t. rw t (go same t))
    where
      go : (b : Bool) → ltb entries (writes left i + cond b 0 1) ≡ false → Within (cond b (Steps i) (Forks i))
      go true t = omega (arith, ltb-false entries (writes left i + 0) t)
      go false t = tt

  unless_within : (d : Decision) (v : Result Unit End) → Within d → Within (unless_ends d v)
  unfolding unless_ends
  unless_within d (Err e) k = tt
  unless_within d (Ok x) k = k

  row_within : (l h : List ℕ) (d : Option Instruction) → Within (row_decision entries left l h d)
  unfolding row_decision
  row_within l h None = tt
  row_within l h (Some i) =
      unless_within (onward entries left (same_class i l h) i) (verdict (points (corner_view l h) i)) (onward_within (same_class i l h) i)

decision_within : (code : List ℕ) (m : Limits) (u : Used) (a : At) (l h : List ℕ)
    → Within (m.entries - u.entries) (ltb a.reads m.inputs) (decision code m u a l h)
unfolding decision
decision_within code m u a l h =
    by_test (eqb u.steps m.steps) (λ s. rw s tt) (λ s. rw s
    (by_test (bad_pc code a.pc) (λ p. rw p tt) (λ p. rw p
    (row_within (m.entries - u.entries) (ltb a.reads m.inputs) l h (fetch code a.pc)))))

pub decided_within : {code : List ℕ} {m : Limits} {u : Used} {a b : Corners} {x y : Machines} {n : ℕ} → Decided code m u a x b y n
    → n ≤ m.entries - u.entries
decided_within {code} {m} {u} {a} {x = x} d =
    omega (arith, rw d.steps at (decision_within code m u a.low x.low x.high), d.takes)
