-- What is known where the explorer's lists hold a state of the engine.
-- Assumes nothing.
use mathlib.Core.Path.{◌≡◌, refl, sym, ap, ◌∙◌}
use mathlib.Core.List.{List}
use Prim.Native.Nat.{ℕ, ◌+◌, ◌*◌, ◌≤◌, ◌<◌}
use native.Mathlib.Omega.{arith}
use lib.ListN.{length, length-set}
use Rattle.listing.specs.Group.{Job}
use Rattle.listing.specs.Listing.{Path}
use Rattle.forks.specs.Working.Stack.{Running}
use Rattle.forks.specs.Working.Turn.{Position, running, Turn, Reached, turns, state_of}
use Rattle.forks.proofs.Table.{forks_count}
use Rattle.boxes.proofs.TwoLists.{length_in}
use Rattle.forks.proofs.Positions.{reached_represents, turn_represents, work_falls, depth}
use Rattle.riscu.specs.Machine.{State}
use Rattle.decide.proofs.Decisions.{Stands}
use Rattle.decide.specs.declared.Limits.{Limits}
use Rattle.cuts.specs.Working.Forking.{Parted}
use Rattle.explorer.specs.Working.Held.{Lists, group_of, forks_of, used_of, Fits, Held, groups_left, idle, work}
use Rattle.explorer.specs.declared.Phase.TheVariants.{AtGroup, Between}
use Rattle.explorer.specs.declared.Standing.{Standing}
use Rattle.corners.specs.Working.Good.{weight}

-- lists as long as those that fit, fit as well
pub fits_again : {j : Job} {m : Limits} {ls hs t ls' hs' t' : List ℕ} → Fits j m ls hs t → length ls' ≡ length ls → length hs' ≡ length hs
    → length t' ≡ length t → Fits j m ls' hs' t'
fits_again f p q r = record {
  sound = f.sound;
  limit = f.limit;
  entries = f.entries;
  paired = p ∙ f.paired ∙ sym q;
  inputs = p ∙ f.inputs;
  table_fits = omega (arith, f.table_fits);
}

-- so do those of a box that is cut
pub fits_parted : {j : Job} {m : Limits} {ls hs t ls' hs' t' : List ℕ} {f : ℕ → ℕ} {k i q : ℕ} → Fits j m ls hs t → ls' ≡ ls
    → Parted f k i ls hs hs' q → length t' ≡ length t → Fits j m ls' hs' t'
fits_parted {hs = hs} {i = i} {q = q} f e p = fits_again f (ap length e) (ap length p.highs ∙ length-set hs i q)

module _ {j : Job} {m : Limits} {ps : List Path} {x : Lists} {s : Standing} (h : Held j m ps x s) (e : s.phase ≡ AtGroup) where
  pub at_group_lem : Reached j (running ps (group_of x s) (forks_of x s))
  at_group_lem = rw e at h.reached

  pub represented : (n : ℕ) × Running j n ps (group_of x s) (forks_of x s)
  represented = reached_represents h.fits.sound at_group_lem

  pub stands : Stands j (group_of x s) m (used_of s) s.at.low x.machines.low x.machines.high
  stands =
      let c = h.corners e in
      record {
        limit = h.fits.limit;
        entries = h.fits.entries;
        inputs = sym h.fits.inputs ∙ sym (length_in x.lows x.highs h.fits.paired);
        steps = refl;
        used = refl;
        pc = ap (λ (t : State). t.pc) c.low;
        reads = ap (λ (t : State). t.reads) c.low;
        low_registers = ap (λ (t : State). t.registers) c.low;
        high_registers = ap (λ (t : State). t.registers) c.high;
      }

  -- each fork has taken an entry
  pub forks_within : s.forks ≤ s.used
  forks_within = omega (arith, depth j (forks_of x s) (group_of x s) represented.1.stacked, forks_count x.table s.forks)

  -- a turn from the group at hand
  module _ {t : Position} (d : Turn j (running ps (group_of x s) (forks_of x s)) t) where
    pub turned : Reached j t
    turned = turns at_group_lem d

    pub lighter : weight j (state_of j t).waiting < weight j (groups_left j AtGroup (group_of x s) (forks_of x s))
    lighter = let (n, r) = represented in work_falls j h.fits.sound r t (turn_represents n d r)

-- the work at a group, and between two
module _ (j : Job) (x : Lists) (s : Standing) where
  pub work_running : s.phase ≡ AtGroup → work j x s ≡ 4 * weight j (groups_left j AtGroup (group_of x s) (forks_of x s)) + 2 * s.forks
  unfolding work
  work_running e = (λ k. 4 * weight j (groups_left j (e k) (group_of x s) (forks_of x s)) + 2 * s.forks + idle (e k)) ∙ omega arith

  pub work_resting : s.phase ≡ Between → work j x s ≡ 4 * weight j (groups_left j Between (group_of x s) (forks_of x s)) + 2 * s.forks + 1
  unfolding work
  work_resting e = λ k. 4 * weight j (groups_left j (e k) (group_of x s) (forks_of x s)) + 2 * s.forks + idle (e k)
