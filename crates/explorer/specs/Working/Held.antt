-- What the explorer's lists and numbers stand for: a state that the engine of `forks` comes to, with both corners' machines.
use Rattle.std.specs.Prelude.{◌≡◌, ◌⊎◌, ◌≢◌, Bool, true, false, List, ◌∷◌, ℕ, ◌+◌, ◌-◌, ◌*◌, ◌≤◌, ◌<◌, ltb, length, get_or, take}
use Rattle.riscu.specs.Machine.{run, start}
use Rattle.riscu.specs.declared.Instruction.{Instruction}
use Rattle.listing.specs.Group.{Job, Group, class_of}
use Rattle.listing.specs.Ending.{writes}
use Rattle.listing.specs.Listing.{Path, listing}
use Rattle.calls.specs.Call.{box_of}
use Rattle.forks.specs.Working.Stack.{Fork, left, spend, with_rest, waiting_of}
use Rattle.forks.specs.Working.Turn.{Position, running, resting, Reached, Fetches}
use Rattle.calls.specs.Limits.{entry_words}
use Rattle.forks.specs.Working.Table.{group_in, fork_in, forks_in, HasEntry, OnTop}
use Rattle.boxes.specs.Working.Cuts.{box_in}
use Rattle.lockstep.specs.Working.LockStep.{Pair, both, advanced, pair, AtCorners}
use Rattle.cuts.specs.Working.Cutting.{probed, Starts}
use Rattle.cuts.specs.Working.Forking.{Parted}
use Rattle.decide.specs.Working.Corner.{machine, decision}
use Rattle.decide.specs.declared.Decision.{Decision}
use Rattle.decide.specs.declared.Decision.TheVariants.{Forks}
use Rattle.decide.specs.declared.Limits.{Limits}
use Rattle.decide.specs.declared.Used.{Used}
use Rattle.lockstep.specs.declared.Corners.{Corners}
use Rattle.lockstep.specs.declared.Machines.{Machines}
use Rattle.explorer.specs.declared.Phase.{Phase}
use Rattle.explorer.specs.declared.Phase.TheVariants.{AtGroup, Between, Stopped}
use Rattle.explorer.specs.declared.Standing.{Standing}
use Rattle.explorer.specs.declared.Task.{Task}
use Rattle.corners.specs.Working.Good.{Sound, weight}

-- the box's lows and highs, the trace table, and the machines at the corners with the tags
pub record Lists : Type 0 where
  pub lows : List ℕ
  pub highs : List ℕ
  pub table : List ℕ
  pub machines : Machines

abbrev pub lists : List ℕ → List ℕ → List ℕ → Machines → Lists
lists ls hs t m = record { lows = ls; highs = hs; table = t; machines = m }

-- the job that is explored; and the same of a task
abbrev pub job_in : List ℕ → List ℕ → List ℕ → Limits → Job
job_in code memory intervals m = record { code = code; memory = memory; limit = m.steps; box = box_of intervals; entries = m.entries }

abbrev pub job_of : Task → Job
job_of t = job_in t.code.now t.memory.now t.intervals.now t.limits

abbrev pub group_of : Lists → Standing → Group
group_of x s = group_in x.lows x.highs s.steps s.used

abbrev pub forks_of : Lists → Standing → List Fork
forks_of x s = forks_in x.table s.forks

abbrev pub used_of : Standing → Used
used_of s = record { steps = s.steps; entries = s.used }

abbrev pub corners_in : Lists → Corners → Pair
corners_in x a = both a x.machines

-- below a cut the low corner and the tags stay, and the high corner is run to step n on the highs of the part
abbrev pub with_high : List ℕ → List ℕ → ℕ → List ℕ → Pair → Pair
with_high code memory n hs p = pair p.low (run code hs n (start memory)) p.tags

-- the decision on the group at hand, and the class at each corner
abbrev pub decision_on : List ℕ → Limits → Lists → Standing → Decision
decision_on code m x s = decision code m (used_of s) s.at.low x.machines.low x.machines.high

abbrev pub low_class : Instruction → Lists → ℕ
low_class i x = class_of i (machine x.machines.low)

abbrev pub high_class : Instruction → Lists → ℕ
high_class i x = class_of i (machine x.machines.high)

-- whether it goes on, whether it is at a group, and whether it has stopped with a further path

abbrev pub going : Phase → Bool
going AtGroup = true
going Between = true
going (Stopped b) = false

abbrev pub at_group : Phase → Bool
at_group AtGroup = true
at_group Between = false
at_group (Stopped b) = false

abbrev pub more : Phase → Bool
more AtGroup = false
more Between = false
more (Stopped b) = b

-- at a group, or between two
abbrev pub position_as : Phase → List Path → Group → List Fork → Position
position_as AtGroup ps g fs = running ps g fs
position_as Between ps g fs = resting ps g fs
position_as (Stopped b) ps g fs = resting ps g fs

-- the limits are the job's, and box and table are of its size
pub record Fits (j : Job) (m : Limits) (ls hs table : List ℕ) : Type 0 where
  pub sound : Sound j j.box
  pub limit : m.steps ≡ j.limit
  pub entries : m.entries ≡ j.entries
  pub paired : length ls ≡ length hs
  pub inputs : length ls ≡ m.inputs
  pub table_fits : entry_words * j.entries ≤ length table

pub record Held (j : Job) (m : Limits) (ps : List Path) (x : Lists) (s : Standing) : Type 0 where
  pub fits : Fits j m x.lows x.highs x.table
  pub reached : Reached j (position_as s.phase ps (group_of x s) (forks_of x s))
  pub corners : s.phase ≡ AtGroup → AtCorners j (box_in x.lows x.highs) s.steps (corners_in x s.at)
  pub count : s.paths ≡ length ps

-- other machines and tags at the same box and table
abbrev pub moved : Lists → Machines → Lists
moved x m = lists x.lows x.highs x.table m

-- the paths ended so far are the first of the listing
abbrev pub listed : Job → Standing → List Path
listed j s = take s.paths (listing j)

-- the latest fork
abbrev pub latest : Lists → Standing → Fork
latest x s = fork_in x.table (s.forks - 1)

-- The box is that of the latest fork's rest, g was the last group, and both corners stand before the fork's instruction i.
pub record Rest (j : Job) (m : Limits) (ps : List Path) (g : Group) (x : Lists) (s : Standing) (i : Instruction)
    (a : Corners) : Type 0 where
  pub fits : Fits j m x.lows x.highs x.table
  pub reached : Reached j (resting ps g (latest x s ∷ forks_in x.table (s.forks - 1)))
  pub some : 0 < s.forks
  pub unspent : (latest x s).spent ≡ false
  pub box : box_in x.lows x.highs ≡ (left (latest x s) g.box).box
  pub corners : AtCorners j (box_in x.lows x.highs) (latest x s).steps (corners_in x a)
  pub fetched : Fetches j (left (latest x s) g.box) i
  pub count : s.paths ≡ length ps

-- where it stands: the phase, the steps, the entries in use, the forks, the paths, the corners
abbrev pub standing : Phase → ℕ → ℕ → ℕ → ℕ → Corners → Standing
standing p n u f k a = record { phase = p; steps = n; used = u; forks = f; paths = k; at = a }

-- once the group at hand has ended
abbrev pub ended : Standing → Standing
ended s = standing Between s.steps s.used s.forks (s.paths + 1) s.at

-- once the latest fork f has gone
abbrev pub dropped : Fork → Standing → Standing
dropped f s = standing Between f.steps f.used (s.forks - 1) s.paths s.at

-- in a part of the rest of fork f, a being where the corners stood before
abbrev pub resumed : Limits → Fork → Standing → Instruction → Corners → Corners → Standing
resumed m f s i a b =
    standing AtGroup (f.steps + 1) (f.used + (writes (ltb a.low.reads m.inputs) i + 1)) s.forks s.paths b

-- a step further, with n entries more
abbrev pub further : Standing → ℕ → Corners → Standing
further s n a = standing AtGroup (s.steps + 1) (s.used + n) s.forks s.paths a

-- one instruction further
abbrev pub stepped : Limits → Standing → Instruction → Corners → Standing
stepped m s i a = further s (writes (ltb s.at.low.reads m.inputs) i) a

-- below the cut of a fork
abbrev pub forked : Limits → Standing → Instruction → Corners → Standing
forked m s i a =
    standing AtGroup (s.steps + 1) (s.used + (writes (ltb s.at.low.reads m.inputs) i + 1)) (s.forks + 1) s.paths a

-- the groups that wait, the one at hand first
abbrev pub groups_left : Job → Phase → Group → List Fork → List Group
groups_left j AtGroup g fs = g ∷ waiting_of j fs g.box
groups_left j Between g fs = waiting_of j fs g.box
groups_left j (Stopped b) g fs = waiting_of j fs g.box

-- between two groups one turn is left that is no move
abbrev pub idle : Phase → ℕ
idle AtGroup = 0
idle Between = 1
idle (Stopped b) = 0

-- what is left to do: the listing's weight, the forks to drop, and the turns that are no move
unfoldable pub work : Job → Lists → Standing → ℕ
work j x s =
    4 * weight j (groups_left j s.phase (group_of x s) (forks_of x s)) + 2 * s.forks + idle s.phase

-- the group at hand forks at i
pub record AtFork (j : Job) (m : Limits) (x : Lists) (s : Standing) (i : Instruction) : Type 0 where
  pub held : Held j m (listed j s) x s
  pub group : s.phase ≡ AtGroup
  pub forks : decision_on j.code m x s ≡ Forks i

-- between two groups, with something left of the latest fork, which is f
pub record AtRest (j : Job) (m : Limits) (x : Lists) (s : Standing) (f : Fork) : Type 0 where
  pub held : Held j m (listed j s) x s
  pub between : s.phase ≡ Between
  pub some : 0 < s.forks
  pub top : f ≡ latest x s
  pub unspent : f.spent ≡ false

-- it goes on: the same paths have ended, and less is left to do
pub record GoesOn (j : Job) (m : Limits) (x : Lists) (s : Standing) (y : Lists) (r : Standing) : Type 0 where
  pub held : Held j m (listed j s) y r
  pub paths : r.paths ≡ s.paths
  pub goes : going r.phase ≡ true
  pub less : work j y r < work j x s

-- What taking up the rest of a fork needs, n being the forks below: a class that is left on the way up, if it is not the same at both corners.
pub record Takeable (code memory : List ℕ) (i : Instruction) (n input steps : ℕ) (x : Lists) : Type 0 where
  pub paired : length x.lows ≡ length x.highs
  pub inside : input < length x.lows
  pub entry : HasEntry x.table n
  pub starts : low_class i x ≢ high_class i x
      → Starts (probed code memory steps i x.highs input) (low_class i x) (get_or x.lows input 0) (get_or x.highs input 0)

-- It is taken up: whole where the class is the same at both corners, and otherwise its first part.

pub record WholeTaken (i : Instruction) (n : ℕ) (x : Lists) (a : Corners) (y : Lists) (b : Corners) : Type 0 where
  pub lows : y.lows ≡ x.lows
  pub highs : y.highs ≡ x.highs
  pub forks : OnTop (spend (fork_in x.table n)) x.table n y.table
  pub corners : corners_in y b ≡ advanced x.lows x.highs i (corners_in x a)

pub record FirstTaken (code memory : List ℕ) (i : Instruction) (n input steps : ℕ) (x : Lists) (a : Corners) (y : Lists) (b : Corners) : Type 0 where
  pub edge : ℕ
  pub lows : y.lows ≡ x.lows
  pub parted : Parted (probed code memory steps i x.highs input) (low_class i x) input x.lows x.highs y.highs edge
  pub forks : OnTop (with_rest (fork_in x.table n) (edge + 1)) x.table n y.table
  pub corners : corners_in y b ≡ advanced x.lows y.highs i (with_high code memory steps y.highs (corners_in x a))

abbrev pub TakenUp : List ℕ → List ℕ → Instruction → ℕ → ℕ → ℕ → Lists → Corners → Lists → Corners → Type 0
TakenUp code memory i n input steps x a y b =
    ((low_class i x ≡ high_class i x) × WholeTaken i n x a y b) ⊎ ((low_class i x ≢ high_class i x) × FirstTaken code memory i n input steps x a y b)
