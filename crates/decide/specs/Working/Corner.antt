-- The ending order at the two corners of a box, from the registers of the machines there.
use Rattle.std.specs.Prelude.{ℕ, ◌+◌, ◌-◌, min, max, Bool, cond, not, List, [], ◌∷◌, ltb, eqb, Option as Maybe, Some, None, Result, Ok, Err}
use Rattle.std.proofs.Math.Option.{Option, none, some}
use Rattle.riscu.specs.Machine.{State, bad_pc, fetch}
use Rattle.riscu.specs.declared.Instruction.{Instruction}
use Rattle.listing.specs.Group.{View, class_of}
use Rattle.listing.specs.Ending.{Point, points, writes}
use Rattle.riscu.specs.declared.At.{At}
use Rattle.listing.specs.declared.End.{End}
use Rattle.listing.specs.declared.End.TheVariants.{BadPc, BadWord, StepLimit, TraceFull}
use Rattle.decide.specs.declared.Limits.{Limits}
use Rattle.decide.specs.declared.Used.{Used}
use Rattle.decide.specs.declared.order.Corners.{Corners}
use Rattle.decide.specs.declared.Decision.{Decision}
use Rattle.decide.specs.declared.Decision.TheVariants.{Ended, Steps, Forks}

-- a machine of which only the registers are asked
abbrev pub machine : List ℕ → State
machine r = record { pc = 0; registers = r; memory = []; reads = 0 }

-- what two corners say of a value that hangs on the registers
abbrev pub corner_view : List ℕ → List ℕ → View
corner_view l h =
    record {
      is_open = λ f. not (eqb (f (machine l)) (f (machine h)));
      lowest = λ f. min (f (machine l)) (f (machine h));
      highest = λ f. max (f (machine l)) (f (machine h));
      pc = 0;
      reads = 0;
      pieces_of = λ i. [];
    }

-- the same of the code's two corners
abbrev pub seen : Corners → View
seen c = corner_view c.low.now c.high.now

-- the first point that applies, as the code answers it
unfoldable pub verdict : List Point → Result Unit End
verdict [] = Ok tt
verdict (p ∷ ps) = cond p.applies (Err p.gives) (verdict ps)

-- The whole decision.

abbrev pub same_class : Instruction → List ℕ → List ℕ → Bool
same_class i l h = eqb (class_of i (machine l)) (class_of i (machine h))

-- point 10, with so many entries left, and then the step; the class is the same at both corners, or not
unfoldable pub onward : ℕ → Bool → Bool → Instruction → Decision
onward entries left same i = cond (ltb entries (writes left i + cond same 0 1)) (Ended TraceFull) (cond same (Steps i) (Forks i))

unfoldable pub unless_ends : Decision → Result Unit End → Decision
unless_ends d (Err e) = Ended e
unless_ends d (Ok x) = d

-- points 3 to 10
unfoldable pub row_decision : ℕ → Bool → List ℕ → List ℕ → Maybe Instruction → Decision
row_decision entries left l h None = Ended BadWord
row_decision entries left l h (Some i) = unless_ends (onward entries left (same_class i l h) i) (verdict (points (corner_view l h) i))

-- all ten points
unfoldable pub decision : List ℕ → Limits → Used → At → List ℕ → List ℕ → Decision
decision code m u a l h =
    cond (eqb u.steps m.steps) (Ended StepLimit)
    (cond (bad_pc code a.pc) (Ended BadPc)
    (row_decision (m.entries - u.entries) (ltb a.reads m.inputs) l h (fetch code a.pc)))

unfoldable pub end_in : Decision → Option End
end_in (Ended e) = some e
end_in (Steps i) = none
end_in (Forks i) = none
