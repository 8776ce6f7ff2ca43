-- An exploration under way: the engine's state, and what of the page is written.
use Rattle.std.specs.Prelude.{◌≡◌, Bool, true, false, List, ℕ, ◌-◌, ◌*◌, ◌^◌, ◌≤◌, ◌<◌, length, take, drop}
use Rattle.listing.specs.Group.{Job}
use Rattle.blocks.specs.Record.{most_inputs, record_bytes, records}
use Rattle.decide.specs.declared.Limits.{Limits}
use Rattle.lockstep.specs.declared.Machines.{Machines}
use Rattle.pages.specs.Working.Page.{filled}
use Rattle.pages.specs.declared.Window.{Window}
use Rattle.explorer.specs.Working.Held.{Lists, lists, latest, listed, standing, Held, work}
use Rattle.explorer.specs.declared.Phase.TheVariants.{AtGroup, Stopped}
use Rattle.explorer.specs.declared.Standing.{Standing}

-- where it stops: with no fork left; or, with a further path, where the page is full and something of a fork is left
abbrev pub StopsAt : Bool → Window → Lists → Standing → Type 0
StopsAt false w x s = s.forks ≡ 0
StopsAt true w x s = (0 < s.forks) × ((latest x s).spent ≡ false) × (s.paths ≡ w.end)

-- the report has a place for each path of the window, and the numbers fit their types
pub record Paged (m : Limits) (w : Window) (report : List ℕ) : Type 0 where
  pub space : record_bytes m.inputs * (w.end - w.first) ≤ length report
  pub few : m.inputs ≤ most_inputs
  pub some : w.first < w.end
  pub end_fits : w.end < 2 ^ 64
  pub steps_fit : m.steps < 2 ^ 64

pub record Explored (j : Job) (m : Limits) (w : Window) (x : Lists) (report : List ℕ) (s : Standing) : Type 0 where
  pub held : Held j m (listed j s) x s
  pub paged : Paged m w report
  pub written : take (filled m.inputs w s.paths) report ≡ records w.first (drop w.first (listed j s))
  pub within : s.paths ≤ w.end
  pub before : s.phase ≡ AtGroup → s.paths < w.end
  pub stopped : (b : Bool) → s.phase ≡ Stopped b → StopsAt b w x s

-- a turn made: it is explored further, less is left to do, no path is lost, and the report past the page is kept
pub record Turned (j : Job) (m : Limits) (w : Window) (x : Lists) (lent : List ℕ) (s : Standing) (y : Lists) (report : List ℕ)
    (r : Standing) : Type 0 where
  pub explored : Explored j m w y report r
  pub less : work j y r < work j x s
  pub paths : s.paths ≤ r.paths
  pub kept : drop (filled m.inputs w r.paths) report ≡ drop (filled m.inputs w r.paths) lent

-- a turn between two groups leaves the report alone, whatever it holds
pub record TurnedBetween (j : Job) (m : Limits) (w : Window) (x : Lists) (s : Standing) (y : Lists) (r : Standing) : Type 0 where
  pub onto : (report : List ℕ) → Explored j m w x report s → Turned j m w x report s y report r

-- a later group: it is explored too, the same paths have ended, and no more is left to do
pub record Later (j : Job) (m : Limits) (w : Window) (report : List ℕ) (x : Lists) (s : Standing) (y : Lists) (r : Standing) : Type 0 where
  pub explored : Explored j m w y report r
  pub group : r.phase ≡ AtGroup
  pub less : work j y r ≤ work j x s
  pub paths : r.paths ≡ s.paths

-- straight steps, x being the machines before and y after: whatever is explored with this code and these limits
pub record RunsOn (code : List ℕ) (m : Limits) (s : Standing) (x : Machines) (r : Standing) (y : Machines) : Type 0 where
  pub onto : (j : Job) (w : Window) (ls hs table report : List ℕ) → j.code ≡ code → Explored j m w (lists ls hs table x) report s
      → s.phase ≡ AtGroup → Later j m w report (lists ls hs table x) s (lists ls hs table y) r

-- where it has stopped
abbrev pub halted : Standing → Bool → Standing
halted s b = standing (Stopped b) s.steps s.used s.forks s.paths s.at
