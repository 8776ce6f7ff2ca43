-- Demand 2: what a path of the listing says of the plain machine.
use Rattle.std.specs.Prelude.{◌≡◌, ◌⊎◌, ℕ, ◌≤◌, ◌<◌}
use Rattle.std.proofs.Math.Option.{none, some}
use Rattle.boxes.specs.Boxes.{Choice, Interval, lows, highs, Inside, Within}
use Rattle.riscu.specs.Machine.{State, reg}
use Rattle.listing.specs.Group.{Job, Group, after}
use Rattle.listing.specs.Ending.{end_of}
use Rattle.listing.specs.Stop.{stop_of}
use Rattle.listing.specs.Follow.{follow}
use Rattle.listing.specs.Listing.{Path}
use Rattle.listing.specs.Numbers.{kind_number}
use Rattle.listing.specs.declared.End.TheVariants.{Exit}
use Rattle.blocks.specs.Record.{register_of, exit_of}

abbrev pub Between : ℕ → Interval → Type 0
Between x v = (v.low ≤ x) × (x ≤ v.high)

-- the plain machine at the path's end, for one choice
abbrev pub at_end : Job → Path → Choice → State
at_end j p c = after j p.steps c

-- a choice inside the path gives f the value x at the path's end
abbrev pub Reached : Job → Path → (State → ℕ) → ℕ → Type 0
Reached j p f x = (c : Choice) × Inside c p.box × (f (at_end j p c) ≡ x)

-- at the lowest inputs f stands at one end of the interval, and at the highest inputs at the other
abbrev pub AtEnds : Job → Path → (State → ℕ) → Interval → Type 0
AtEnds j p f v =
    let x = f (at_end j p (lows p.box)) in
    let y = f (at_end j p (highs p.box)) in
    ((x ≡ v.low) × (y ≡ v.high)) ⊎ ((x ≡ v.high) × (y ≡ v.low))

-- One choice runs the path: the plain machine completes its steps, comes to its pc with its inputs read, stops there with its kind
-- (up to 6; the others stop the engine alone), and has every register and the exit value inside the reported interval.
pub record Runs (j : Job) (p : Path) (c : Choice) : Type 0 where
  pub completes : (m : ℕ) → m < p.steps → stop_of j.code (after j m c) ≡ none
  pub pc : (at_end j p c).pc ≡ p.pc
  pub reads : (at_end j p c).reads ≡ p.reads
  pub stops : kind_number p.end ≤ 6 → stop_of j.code (at_end j p c) ≡ some p.end
  pub registers : (r : ℕ) → r < 32 → Between (reg r (at_end j p c)) (register_of p r)
  pub exit : p.end ≡ Exit → Between (reg 10 (at_end j p c)) (exit_of p)

-- The group that a choice is in has the path's box and steps, and the ending order gives it the path's end. (The entries in use are
-- those of the choice's own completed steps.)
pub record EndsAs (j : Job) (p : Path) (g : Group) : Type 0 where
  pub box : g.box ≡ p.box
  pub steps : g.steps ≡ p.steps
  pub end : end_of j g ≡ some p.end

pub record Faithful (j : Job) (p : Path) : Type 0 where
  -- the path's box is part of the starting box
  pub inputs : Within p.box j.box
  -- every choice inside runs the path, all through the same instructions
  pub runs : (c : Choice) → Inside c p.box → Runs j p c
  pub instructions : (c d : Choice) → Inside c p.box → Inside d p.box → (m : ℕ) → m ≤ p.steps → (after j m c).pc ≡ (after j m d).pc
  -- both ends of each interval are reached: of the inputs', of the registers', of the exit value's
  pub lowest : Inside (lows p.box) p.box
  pub highest : Inside (highs p.box) p.box
  pub registers : (r : ℕ) → r < 32 → Reached j p (reg r) (register_of p r).low × Reached j p (reg r) (register_of p r).high
  pub exit : p.end ≡ Exit → Reached j p (reg 10) (exit_of p).low × Reached j p (reg 10) (exit_of p).high
  -- the lowest inputs are a witness: each register and the exit value stand at one end there, and at the highest inputs at the other
  pub witness : (r : ℕ) → r < 32 → AtEnds j p (reg r) (register_of p r)
  pub exit_witness : p.end ≡ Exit → AtEnds j p (reg 10) (exit_of p)
  -- the ending order ends the path there, with its end
  pub ends : (c : Choice) → Inside c p.box → EndsAs j p (follow j c p.steps)
