-- What the contracts say of a straight step: it is the decision's, and both corners take it; or nothing has moved. Straight steps one
-- after another, and both corners from one number of steps to another.
use Rattle.std.specs.Prelude.{◌≡◌, Bool, true, false, List, ◌≢◌, ℕ, ◌+◌, ◌≤◌, ◌/◌, Option, Some, None, ltb, cond, eqb, get_or}
use Rattle.boxes.specs.Boxes.{Choice}
use Rattle.riscu.specs.Machine.{bad_pc, fetch}
use Rattle.riscu.specs.declared.Instruction.{Instruction}
use Rattle.listing.specs.Ending.{writes}
use Rattle.decide.specs.Working.Corner.{row_decision, decision}
use Rattle.decide.specs.declared.Limits.{Limits}
use Rattle.decide.specs.declared.Used.{Used}
use Rattle.decide.specs.declared.Decision.TheVariants.{Steps}
use Rattle.lockstep.specs.Working.LockStep.{Pair, both, advanced, lock_steps}
use Rattle.lockstep.specs.declared.Corners.{Corners}
use Rattle.lockstep.specs.declared.Machines.{Machines}
use Rattle.straight.specs.declared.Taken.{Taken}

-- with so many entries left the decision on i is to step, and the step takes w entries, whether or not an input is left
pub record Goes (entries : ℕ) (i : Instruction) (l h : List ℕ) (w : ℕ) : Type 0 where
  pub steps : (left : Bool) → row_decision entries left l h (Some i) ≡ Steps i
  pub takes : (left : Bool) → w ≡ writes left i

-- both corners take i, whatever the inputs
abbrev pub Moves : Instruction → Pair → Pair → Type 0
Moves i p q = (lows highs : Choice) → q ≡ advanced lows highs i p

-- the machines x before, and y after
abbrev pub Stepped : ℕ → Instruction → Corners → Machines → Machines → Option Taken → Type 0
Stepped entries i a x y (Some t) = Goes entries i x.low x.high t.writes × Moves i (both a x) (both t.at y)
Stepped entries i a x y None = y ≡ x

-- the entries that a write of rd takes are left
abbrev pub Room : ℕ → ℕ → Option ℕ → Type 0
Room entries rd (Some w) = (w ≡ cond (eqb rd 0) 0 1) × (w ≤ entries)
Room entries rd None = Unit {0}

-- the code's word at pc, or there is none
abbrev pub HasWord : List ℕ → ℕ → Option ℕ → Type 0
HasWord code pc (Some w) = (bad_pc code pc ≡ false) × (w ≡ get_or code (pc / 4) 0)
HasWord code pc None = bad_pc code pc ≡ true

-- of a word that d is: the instruction is the row's
pub record Formed (entries : ℕ) (d : Option Instruction) (a : Corners) (x : Machines) (b : Corners) (y : Machines) (w : ℕ) : Type 0 where
  pub instruction : Instruction
  pub is : d ≡ Some instruction
  pub goes : Goes entries instruction x.low x.high w
  pub moves : Moves instruction (both a x) (both b y)

abbrev pub FormStepped : ℕ → Option Instruction → Corners → Machines → Machines → Option Taken → Type 0
FormStepped entries d a x y (Some t) = Formed entries d a x t.at y t.writes
FormStepped entries d a x y None = y ≡ x

-- the same from the code: the instruction is the one that the whole decision finds
pub record Decided (code : List ℕ) (m : Limits) (u : Used) (a : Corners) (x : Machines) (b : Corners) (y : Machines)
    (w : ℕ) : Type 0 where
  pub instruction : Instruction
  pub below_limit : u.steps ≢ m.steps
  pub row : fetch code a.low.pc ≡ Some instruction
  pub steps : decision code m u a.low x.low x.high ≡ Steps instruction
  pub takes : w ≡ writes (ltb a.low.reads m.inputs) instruction
  pub moves : Moves instruction (both a x) (both b y)

abbrev pub DecidedStep : List ℕ → Limits → Used → Corners → Machines → Machines → Option Taken → Type 0
DecidedStep code m u a x y (Some t) = Decided code m u a x t.at y t.writes
DecidedStep code m u a x y None = y ≡ x

-- where straight steps stand: what the group has used, where the corners are, the machines
pub record Place : Type 0 where
  pub used : Used
  pub at : Corners
  pub machines : Machines

abbrev pub place : Used → Corners → Machines → Place
place u a x = record { used = u; at = a; machines = x }

-- one step and w entries more
abbrev pub beyond : Used → ℕ → Used
beyond u w = record { steps = u.steps + 1; entries = u.entries + w }

-- straight steps one after another
pub data StraightRun (code : List ℕ) (m : Limits) (p : Place) : Place → Type 0 where
  none : StraightRun code m p p
  more : {u : Used} {a b : Corners} {x y : Machines} {w : ℕ} → StraightRun code m p (place u a x) → Decided code m u a x b y w
      → StraightRun code m p (place (beyond u w) b y)

-- from step k to step n of both corners, wherever these began
abbrev pub Onward : Choice → Choice → List ℕ → ℕ → Pair → ℕ → Pair → Type 0
Onward ls hs code k p n q = (o : Pair) → p ≡ lock_steps ls hs code k o → q ≡ lock_steps ls hs code n o
