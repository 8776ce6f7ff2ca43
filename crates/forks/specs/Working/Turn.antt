-- The explorer's steps, by the corners, and where a group forks along an input that its class hangs on: a group that goes on straight, one
-- that forks, one that ends; and between two groups a fork
-- with nothing left that goes, a rest taken up whole, and the first part of a rest.
use Rattle.std.specs.Prelude.{◌≡◌, true, false, List, [], ◌∷◌, ◌++◌, ◌≢◌, ℕ, suc, ◌+◌, ◌<◌, length, set, Some}
use Rattle.std.proofs.Math.Option.{none, some}
use Rattle.boxes.specs.Boxes.{Choice, Box, at, lows, highs}
use Rattle.boxes.specs.Working.Cuts.{OneInput, below, Edge}
use Rattle.riscu.specs.Machine.{fetch}
use Rattle.riscu.specs.declared.Instruction.{Instruction}
use Rattle.listing.specs.Group.{Job, Group, after, class_of}
use Rattle.listing.specs.Ending.{end_by}
use Rattle.listing.specs.Listing.{Path, Progress, progress, later, path_of, whole}
use Rattle.listing.specs.declared.End.{End}
use Rattle.forks.specs.Working.Stack.{Fork, before, left, fork_at, shorten, spend, written, waiting_of, Running, Resting}
use Rattle.corners.specs.Working.Good.{low_state, high_state, corners_of}

-- the explorer's position, at a group or between two: the paths so far, the group at hand (the current one, or the last one ended),
-- the forks
pub data Position : Type 0 where
  running : List Path → Group → List Fork → Position
  resting : List Path → Group → List Fork → Position

-- the class of the choices at an instruction after n steps
abbrev pub class_at : Job → ℕ → Instruction → Choice → ℕ
class_at j n i c = class_of i (after j n c)

-- the instruction at a group's low corner, and a class that is the same at both corners
abbrev pub Fetches : Job → Group → Instruction → Type 0
Fetches j g i = fetch j.code (low_state j g).pc ≡ Some i

abbrev pub OneClass : Job → Group → Instruction → Type 0
OneClass j g i = class_of i (low_state j g) ≡ class_of i (high_state j g)

-- m is the edge of the class of a group along input x
abbrev pub EdgeAt : Job → Group → Instruction → ℕ → ℕ → Type 0
EdgeAt j g i x m = Edge (class_at j g.steps i) g.box x m

-- what a search for the edge of a class along input x has to start from, the other inputs at their highest: the class of the lowest
-- choice is left on the way up
pub record Cuttable (k : Choice → ℕ) (b : Box) (x : ℕ) : Type 0 where
  pub inside : x < length b
  pub wide : at (lows b) x < at (highs b) x
  pub bottom : k (set (highs b) x (at (lows b) x)) ≡ k (lows b)
  pub top : k (set (highs b) x (at (highs b) x)) ≢ k (lows b)

pub data Turn (j : Job) : Position → Position → Type 0 where
  straight : {ps : List Path} {g : Group} {fs : List Fork} {i : Instruction} → end_by j g (corners_of j g) ≡ none → Fetches j g i
      → OneClass j g i
      → Turn j (running ps g fs) (running ps (later g (written j g i) g.box) fs)
  forking : {ps : List Path} {g : Group} {fs : List Fork} {i : Instruction} {x m : ℕ} → end_by j g (corners_of j g) ≡ none → Fetches j g i
      → OneInput g.box x (class_at j g.steps i) → EdgeAt j g i x m
      → Turn j (running ps g fs) (running ps (later g (written j g i + 1) (below g.box x m)) (fork_at g x m ∷ fs))
  ending : {ps : List Path} {g : Group} {fs : List Fork} {e : End} → end_by j g (corners_of j g) ≡ some e
      → Turn j (running ps g fs) (resting (ps ++ (path_of g (corners_of j g) e ∷ [])) g fs)
  dropping : {ps : List Path} {g : Group} {f : Fork} {fs : List Fork} → f.spent ≡ true
      → Turn j (resting ps g (f ∷ fs)) (resting ps (before f g.box) fs)
  whole_rest : {ps : List Path} {g : Group} {f : Fork} {fs : List Fork} {i : Instruction} → f.spent ≡ false
      → Fetches j (left f g.box) i → OneClass j (left f g.box) i
      → Turn j (resting ps g (f ∷ fs))
      (running ps (later (left f g.box) (written j (left f g.box) i + 1) (left f g.box).box) (spend f ∷ fs))
  first_part : {ps : List Path} {g : Group} {f : Fork} {fs : List Fork} {i : Instruction} {m : ℕ} → f.spent ≡ false
      → Fetches j (left f g.box) i → EdgeAt j (left f g.box) i f.input m
      → Turn j (resting ps g (f ∷ fs))
      (running ps (later (left f g.box) (written j (left f g.box) i + 1) (below (left f g.box).box f.input m))
      (shorten f m ∷ fs))

-- the positions that the explorer comes to from the job's box
pub data Reached (j : Job) : Position → Type 0 where
  begins : Reached j (running [] (whole j) [])
  turns : {s t : Position} → Reached j s → Turn j s t → Reached j t

-- the state of the listing that a position stands for
unfoldable pub state_of : Job → Position → Progress
state_of j (running ps g fs) = progress ps (g ∷ waiting_of j fs g.box)
state_of j (resting ps g fs) = progress ps (waiting_of j fs g.box)

-- the moves made after a step, n being those before: a step at a group is a move, one between groups is none
abbrev pub moves_after : Position → ℕ → ℕ
moves_after (running ps g fs) n = suc n
moves_after (resting ps g fs) n = n

-- a position stands for the listing after n moves
abbrev pub Represents : Job → ℕ → Position → Type 0
Represents j n (running ps g fs) = Running j n ps g fs
Represents j n (resting ps g fs) = Resting j n ps g fs
