-- The explorer's state as the plain listing sees it: the current group, and a stack of forks, the latest first.
use Rattle.std.specs.Prelude.{ℕ, ◌+◌, ◌≤◌, ◌<◌, ◌≡◌, Bool, true, false, cond, List, [], ◌∷◌, ◌++◌, map, ltb, length, Option, Some, None}
use Rattle.boxes.specs.Boxes.{Box, ◌⋯◌, at, lows, highs}
use Rattle.boxes.specs.Working.Cuts.{cut, OneInput}
use Rattle.riscu.specs.Machine.{fetch}
use Rattle.riscu.specs.declared.Instruction.{Instruction}
use Rattle.listing.specs.Group.{Job, Group, view_of, after, class_of}
use Rattle.listing.specs.Ending.{writes}
use Rattle.listing.specs.Listing.{Path, progress, later, moves}
use Rattle.corners.specs.Working.Smooth.{Followed}
use Rattle.corners.specs.Working.Good.{Good, low_state}

-- A fork of the present path: the input cut and its interval before the fork; where the part not yet taken begins; the steps and
-- the entries in use before the fork; whether nothing of it is left.
pub record Fork : Type 0 where
  pub input : ℕ
  pub low : ℕ
  pub high : ℕ
  pub rest : ℕ
  pub steps : ℕ
  pub used : ℕ
  pub spent : Bool

-- With the box of what lies above the fork: the group before the fork, and the part of it not yet taken.

abbrev pub before : Fork → Box → Group
before f b = record { box = cut b f.input (f.low ⋯ f.high); steps = f.steps; used = f.used }

abbrev pub left : Fork → Box → Group
left f b = record { box = cut b f.input (f.rest ⋯ f.high); steps = f.steps; used = f.used }

-- the fork of a group at the edge m of input i, as it is pushed; the fork with its rest shortened to what is above m; the fork with
-- nothing left

abbrev pub fork_at : Group → ℕ → ℕ → Fork
fork_at g i m =
    record {
      input = i;
      low = at (lows g.box) i;
      high = at (highs g.box) i;
      rest = m + 1;
      steps = g.steps;
      used = g.used;
      spent = false;
    }

abbrev pub rest_at : Fork → ℕ → Bool → Fork
rest_at f x s = record { input = f.input; low = f.low; high = f.high; rest = x; steps = f.steps; used = f.used; spent = s }

abbrev pub with_rest : Fork → ℕ → Fork
with_rest f x = rest_at f x f.spent

abbrev pub shorten : Fork → ℕ → Fork
shorten f m = rest_at f (m + 1) false

abbrev pub spend : Fork → Fork
spend f = rest_at f f.rest true

-- the entries that the step of a group takes for its writes, by the machine at the low corner
abbrev pub written : Job → Group → Instruction → ℕ
written j g i = writes (ltb (low_state j g).reads (length g.box)) i

-- the groups that take the place of what is left of a fork; the fork's entry counts even where one piece is left
unfoldable pub rest_by : Job → Group → Option Instruction → List Group
rest_by j g None = []
rest_by j g (Some i) = map (later g (written j g i + 1)) ((view_of j g).pieces_of i)

abbrev pub rest_of : Job → Group → List Group
rest_of j g = rest_by j g (fetch j.code (low_state j g).pc)

-- the groups that wait below the current one, whose box is given
unfoldable pub waiting_of : Job → List Fork → Box → List Group
waiting_of j [] b = []
waiting_of j (f ∷ fs) b = cond f.spent [] (rest_of j (left f b)) ++ waiting_of j fs (before f b).box

-- what is known of a fork, by the group that lies above it
pub record Forked (j : Job) (f : Fork) (g : Group) : Type 0 where
  pub good : Good j (before f g.box)
  pub instruction : Instruction
  pub followed : Followed j (before f g.box).box f.steps instruction
  pub one : OneInput (before f g.box).box f.input (λ c. class_of instruction (after j f.steps c))
  pub inside : f.input < length g.box
  pub from_low : f.low ≤ f.rest
  pub to_high : f.rest ≤ f.high
  pub counted : f.used < g.used
  pub entries_fit : f.used + (written j (before f g.box) instruction + 1) ≤ j.entries

abbrev pub Stacked : Job → List Fork → Group → Type 0
Stacked j [] g = Unit {0}
Stacked j (f ∷ fs) g = Forked j f g × Stacked j fs (before f g.box)

-- the explorer at a group: after n moves the listing has these paths, and waiting are the group and what the stack holds
pub record Running (j : Job) (n : ℕ) (ps : List Path) (g : Group) (fs : List Fork) : Type 0 where
  pub moved : moves view_of j n ≡ progress ps (g ∷ waiting_of j fs g.box)
  pub good : Good j g
  pub entries_fit : g.used ≤ j.entries
  pub stacked : Stacked j fs g

-- the explorer between two groups, the last one at hand: waiting is what the stack holds
pub record Resting (j : Job) (n : ℕ) (ps : List Path) (g : Group) (fs : List Fork) : Type 0 where
  pub moved : moves view_of j n ≡ progress ps (waiting_of j fs g.box)
  pub stacked : Stacked j fs g
