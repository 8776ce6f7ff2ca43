-- Straight steps one after another.
-- Assumes nothing.
use mathlib.Core.Path.{◌≡◌, refl, ap}
use mathlib.Core.List.{List}
use Prim.Native.Nat.{ℕ, ◌≤◌}
use native.Mathlib.Omega.{arith}
use Rattle.listing.specs.Group.{Job}
use Rattle.decide.specs.declared.Limits.{Limits}
use Rattle.pages.specs.declared.Window.{Window}
use Rattle.straight.specs.Working.Stepped.{Place, place, StraightRun, none, more}
use Rattle.lockstep.specs.declared.Machines.{Machines}
use Rattle.explorer.specs.Working.Held.{Lists, used_of, going, standing, further, work}
use Rattle.explorer.specs.Working.Explored.{Explored, RunsOn}
use Rattle.explorer.specs.declared.Phase.TheVariants.{AtGroup}
use Rattle.explorer.specs.declared.Standing.{Standing}
use Rattle.boxes.proofs.Lists.{not_both}
use Rattle.explorer.proofs.Stands.{work_running}
use Rattle.explorer.proofs.Explored.{explored_straight}

module _ {j : Job} {m : Limits} {w : Window} {x : Lists} {report : List ℕ} {s : Standing} (e : Explored j m w x report s)
    (r : s.phase ≡ AtGroup) where
  -- a group that goes on is told by its numbers
  abbrev here : Standing
  here = standing AtGroup s.steps s.used s.forks s.paths s.at

  same : Explored j m w x report here
  same = record {
    held = record {
      fits = e.held.fits;
      reached = rw r at e.held.reached;
      corners = λ _. e.held.corners r;
      count = e.held.count;
    };
    paged = e.paged;
    written = e.written;
    within = e.within;
    before = λ _. e.before r;
    stopped = λ b z. not_both (ap going z) refl;
  }

  same_work : work j x here ≤ work j x s
  same_work = omega (arith, work_running j x s r, work_running j x here refl)

-- where straight steps from s have come to
abbrev reached : Standing → Place → Standing
reached s q = standing AtGroup q.used.steps q.used.entries s.forks s.paths q.at

pub runs_on : {code : List ℕ} {m : Limits} (s : Standing) {x : Machines} {q : Place} → StraightRun code m (place (used_of s) s.at x) q
    → RunsOn code m s x (reached s q) q.machines
runs_on s none = record {
  onto = λ j w ls hs table report c e r.
      record { explored = same e r; group = refl; less = same_work e r; paths = refl };
}
runs_on s (more {u = u} {a = a} {b = b} {x = y} {y = z} {w = n} r d) = record {
  onto = λ j w ls hs table report c e f.
      let k = (runs_on s r).onto j w ls hs table report c e f in
      let here = reached s (place u a y) in
      let t = explored_straight k.explored refl d.instruction (rw c d.steps) z
      (further here n b) (ap (λ (v : ℕ). further here v b) d.takes) (d.moves ls hs) in
      record { explored = t.explored; group = refl; less = omega (arith, t.less, k.less); paths = refl };
}
