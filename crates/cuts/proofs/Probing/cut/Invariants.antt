use Rattle.std.specs.Prelude.{IfSome}
use Rattle.riscu.specs.Working.Parts.{state}
use Rattle.riscu.specs.declared.At.{At}
use Rattle.cuts.specs.Working.Cutting.{reached_by, probed_by}
use Rattle.cuts.proofs.Search.{Narrowed}
use mathlib.Core.Path.{◌≡◌}
use Prim.Native.Nat.{◌-◌}
use Rattle.cuts.proofs.Probing.cut.Given as goal

abbrev pub invariant-loop-b : goal.invariant-loop-b
invariant-loop-b l = record {
  same_choice : l.choice ≡ l.initial.choice;
  narrowed : Narrowed (probed_by l.self l.initial.choice) l.self.class l.lo l.hi l.a l.b l.turn;
  at_edge : IfSome l.at (λ (x : At). state x l.registers l.scratch ≡ reached_by l.self l.initial.choice l.a);
}

abbrev pub decreases-loop-b : goal.decreases-loop-b
decreases-loop-b l = 71 - l.turn
