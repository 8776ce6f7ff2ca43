-- A turn that goes straight on.
-- Assumes nothing.
use mathlib.Core.Path.{◌≡◌, refl}
use mathlib.Core.List.{List}
use Prim.Native.Nat.{ℕ, ◌+◌, ◌*◌, ◌≤◌, ◌<◌}
use native.Mathlib.Omega.{arith}
use lib.Dec.{ltb}
use lib.ListN.{length}
use Rattle.riscu.specs.Machine.{fetch}
use Rattle.riscu.specs.declared.Instruction.{Instruction}
use Rattle.std.specs.Prelude.{Some}
use Rattle.listing.specs.Group.{Job}
use Rattle.listing.specs.Ending.{writes}
use Rattle.listing.specs.Listing.{Path, later}
use Rattle.forks.specs.Working.Stack.{written}
use Rattle.forks.specs.Working.Turn.{running, Turn, straight, state_of}
use Rattle.calls.specs.Limits.{entry_words}
use Rattle.forks.specs.Working.Table.{group_in}
use Rattle.boxes.specs.Working.Cuts.{box_in}
use Rattle.boxes.proofs.TwoLists.{lows_in, highs_in}
use Rattle.forks.proofs.Positions.{reached_represents, within_limit}
use Rattle.lockstep.specs.Working.LockStep.{Pair, advanced, AtCorners}
use Rattle.lockstep.proofs.LockStep.{advanced_at}
use Rattle.decide.proofs.Says.{says_steps}
use Rattle.decide.specs.declared.Limits.{Limits}
use Rattle.decide.specs.declared.Decision.TheVariants.{Steps}
use Rattle.lockstep.specs.declared.Corners.{Corners}
use Rattle.lockstep.specs.declared.Machines.{Machines}
use Rattle.explorer.specs.Working.Held.{Lists, group_of, forks_of, corners_in, decision_on, Held, moved, stepped, groups_left, work}
use Rattle.explorer.specs.declared.Phase.TheVariants.{AtGroup}
use Rattle.explorer.specs.declared.Standing.{Standing}
use Rattle.explorer.proofs.Stands.{stands, turned, lighter, work_running}
use Rattle.corners.specs.Working.Good.{Good, weight}

-- one instruction further at both corners, where the group one step later is good
pub corners_next : (j : Job) (ls hs : List ℕ) (n u : ℕ) {i : Instruction} {p : Pair} → length ls ≡ length hs
    → Good j (group_in ls hs (n + 1) u) → fetch j.code p.low.pc ≡ Some i → AtCorners j (box_in ls hs) n p
    → AtCorners j (box_in ls hs) (n + 1) (advanced ls hs i p)
corners_next j ls hs n u e g f a =
    rw (lows_in ls hs e, highs_in ls hs e) at (advanced_at j (box_in ls hs) g.sound (g.smooth n (omega arith)) f a)

module _ {j : Job} {m : Limits} {ps : List Path} {x : Lists} {s : Standing} (h : Held j m ps x s) (e : s.phase ≡ AtGroup) where
  -- the entries that a step takes for its writes
  pub written_is : (i : Instruction) → writes (ltb s.at.low.reads m.inputs) i ≡ written j (group_of x s) i
  written_is i = let w = stands h e in rw (w.reads, w.inputs)

  module _ (i : Instruction) (d : decision_on j.code m x s ≡ Steps i) where
    turn : Turn j (running ps (group_of x s) (forks_of x s))
        (running ps (later (group_of x s) (written j (group_of x s) i) (box_in x.lows x.highs)) (forks_of x s))
    turn = let k = says_steps (stands h e) d in straight k.0 k.1 k.2

    pub straight_limits : (s.steps + 1 ≤ m.steps) × (entry_words * s.used ≤ length x.table)
    straight_limits =
        let r = (reached_represents h.fits.sound (turned h e turn)).1 in
        (omega (arith, within_limit j h.fits.sound r, h.fits.limit), omega (arith, r.entries_fit, h.fits.table_fits))

    pub held_straight : (y : Machines) (a : Corners)
        → corners_in (moved x y) a ≡ advanced x.lows x.highs i (corners_in x s.at)
        → Held j m ps (moved x y) (stepped m s i a)
    held_straight y a q =
        let g = (reached_represents h.fits.sound (turned h e turn)).1.good in
        let k = stands h e in
        let row : fetch j.code s.at.low.pc ≡ Some i = rw k.pc (says_steps k d).1 in
        record {
          fits = h.fits;
          reached = rw (written_is i) (turned h e turn);
          corners = λ _. rw q (corners_next j x.lows x.highs s.steps _ h.fits.paired g row (h.corners e));
          count = h.count;
        }

    pub work_straight : (y : Machines) (a : Corners) → work j (moved x y) (stepped m s i a) < work j x s
    unfolding state_of
    work_straight y a =
        let z = stepped m s i a in
        let v : weight j (groups_left j AtGroup (group_of (moved x y) z) (forks_of (moved x y) z))
        ≡ weight j (state_of j (running ps (later (group_of x s) (written j (group_of x s) i) (box_in x.lows x.highs)) (forks_of x s))).waiting =
        rw (written_is i) in
        omega (arith, lighter h e turn, v, work_running j x s e, work_running j (moved x y) z refl)
