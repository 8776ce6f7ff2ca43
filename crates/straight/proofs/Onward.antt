-- Straight steps one after another, as steps of both corners. Assumes nothing.
use mathlib.Core.Path.{◌≡◌, sym, ap, ◌∙◌}
use mathlib.Core.List.{List}
use Prim.Native.Nat.{ℕ, ◌+◌, ◌≤◌}
use native.Mathlib.Omega.{arith}
use Rattle.boxes.specs.Boxes.{Choice}
use Rattle.std.specs.Prelude.{Option}
use Rattle.riscu.specs.declared.Instruction.{Instruction}
use Rattle.decide.specs.declared.Limits.{Limits}
use Rattle.decide.specs.declared.Used.{Used}
use Rattle.riscu.specs.Machine.{fetch}
use Rattle.lockstep.specs.Working.LockStep.{Pair, both, advanced_by}
use Rattle.lockstep.specs.declared.Corners.{Corners}
use Rattle.lockstep.specs.declared.Machines.{Machines}
use Rattle.lockstep.proofs.LockStep.{one_more}
use Rattle.straight.specs.Working.Stepped.{Place, place, StraightRun, none, more, Onward}

module _ {code : List ℕ} {m : Limits} {p : Place} where
  -- machines that have not moved
  pub runs_left : {u : Used} {a : Corners} {x y : Machines} → StraightRun code m p (place u a x) → y ≡ x → StraightRun code m p (place u a y)
  runs_left r e = rw e r

  pub runs_rise : {q : Place} → StraightRun code m p q → p.used.steps ≤ q.used.steps
  runs_rise none = omega arith
  runs_rise (more r d) = omega (arith, runs_rise r)

  pub runs_within : {q : Place} → p.used.steps ≤ m.steps → StraightRun code m p q → q.used.steps ≤ m.steps
  runs_within l none = l
  runs_within l (more r d) = omega (arith, runs_within l r, d.below_limit)

  pub runs_onward : {q : Place} (ls hs : Choice) → StraightRun code m p q
      → Onward ls hs code p.used.steps (both p.at p.machines) q.used.steps (both q.at q.machines)
  unfolding advanced_by
  runs_onward ls hs none = λ o e. e
  runs_onward ls hs (more {a = a} {x = x} r d) = λ o e.
      one_more ls hs code o _ (both a x) _ (runs_onward ls hs r o e)
      (d.moves ls hs ∙ ap (λ (v : Option Instruction). advanced_by ls hs v (both a x)) (sym d.row))

-- and another step
pub onward_one : (ls hs : Choice) (code : List ℕ) (k n : ℕ) (p q t : Pair) → Onward ls hs code k p n q
    → t ≡ advanced_by ls hs (fetch code q.low.pc) q → Onward ls hs code k p (n + 1) t
onward_one ls hs code k n p q t h e = λ o z. one_more ls hs code o n q t (h o z) e
