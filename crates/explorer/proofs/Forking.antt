-- A turn that forks.
-- Assumes nothing.
use mathlib.Core.Path.{◌≡◌, refl, sym, ap, ◌∙◌}
use mathlib.Core.List.{List, ◌∷◌}
use mathlib.Core.Option.{none}
use Prim.Native.Nat.{ℕ, suc, ◌+◌, ◌*◌, ◌≤◌, ◌<◌}
use native.Mathlib.Omega.{arith}
use native.Mathlib.Numerals.{add-one}
use lib.Dec.{ltb}
use lib.ListN.{length, get_or}
use Rattle.boxes.specs.Boxes.{Choice, Within}
use Rattle.boxes.specs.Working.Cuts.{OneInput, below, box_in}
use Rattle.boxes.proofs.Cut.{below_within}
use Rattle.boxes.proofs.OneInput.{one_input_convex}
use Rattle.boxes.proofs.Pieces.{edge_exists}
use Rattle.riscu.specs.Machine.{State, fetch}
use Rattle.riscu.specs.declared.Instruction.{Instruction}
use Rattle.std.specs.Prelude.{Some}
use Rattle.listing.specs.Group.{Job, Group, after, class_of}
use Rattle.listing.specs.Ending.{writes, end_by}
use Rattle.listing.specs.Listing.{later}
use Rattle.forks.specs.Working.Stack.{Running, written, fork_at}
use Rattle.forks.specs.Working.Turn.{running, Turn, forking, Reached, state_of, Fetches, OneClass, EdgeAt, Cuttable, class_at}
use Rattle.calls.specs.Limits.{entry_words}
use Rattle.forks.specs.Working.Table.{group_in, HasEntry, OnTop}
use Rattle.boxes.proofs.TwoLists.{lows_in, highs_in, length_in}
use Rattle.forks.proofs.Turns.{known, now_one, cuttable, goes_forking}
use Rattle.forks.proofs.Positions.{reached_represents, within_limit}
use Rattle.decide.specs.Working.Corner.{machine}
use Rattle.lockstep.specs.Working.LockStep.{Pair, pair, Hangs, lock_steps, starting, advanced, AtCorners}
use Rattle.lockstep.proofs.LockStep.{replayed, hangs_on}
use Rattle.decide.proofs.Decisions.{class_by_registers}
use Rattle.decide.proofs.Says.{says_forks}
use Rattle.decide.specs.declared.Limits.{Limits}
use Rattle.lockstep.specs.declared.Corners.{Corners}
use Rattle.cuts.specs.Working.Cutting.{probed}
use Rattle.cuts.specs.Working.Entries.{fork_of}
use Rattle.cuts.specs.Working.Forking.{Partable, Parted}
use Rattle.cuts.proofs.Edges.{starts_in, parted_edge, parted_below}
use Rattle.explorer.specs.Working.Held.{Lists, group_of, forks_of, corners_in, with_high, low_class, Held, listed, forked, groups_left, work, AtFork, GoesOn}
use Rattle.explorer.specs.declared.Phase.TheVariants.{AtGroup}
use Rattle.explorer.specs.declared.Standing.{Standing}
use Rattle.explorer.proofs.Stands.{fits_parted, represented, stands, forks_within, turned, lighter, work_running}
use Rattle.explorer.proofs.Straight.{corners_next, written_is}
use Rattle.corners.proofs.Uniform.{uniform_within}
use Rattle.corners.specs.Working.Good.{Good, low_state, input_of, corners_of, weight}
use Rattle.corners.specs.Working.Tags.{Tags}

-- both corners replayed to a good group
pub replayed_to : (j : Job) (ls hs : List ℕ) (n u : ℕ) → length ls ≡ length hs → Good j (group_in ls hs n u)
    → AtCorners j (box_in ls hs) n (lock_steps ls hs j.code n (starting j.memory))
replayed_to j ls hs n u e g = rw (lows_in ls hs e, highs_in ls hs e) at (replayed j (box_in ls hs) g.sound n g.smooth)

-- the high corner that a search left is the run on the highs
pub with_run : (ls hs : List ℕ) (i : Instruction) (l : State) (g : Tags) {t u : State} {q : Pair} → t ≡ u
    → q ≡ advanced ls hs i (pair l t g) → q ≡ advanced ls hs i (pair l u g)
with_run ls hs i l g e z = z ∙ ap (λ (v : State). advanced ls hs i (pair l v g)) e

-- both corners of the part below a cut, by those of the whole
pub corners_below : (j : Job) (ls hs ls' hs' : List ℕ) (n : ℕ) {p : Pair} → length ls ≡ length hs → length ls' ≡ length hs' → ls' ≡ ls
    → Within (box_in ls' hs') (box_in ls hs) → AtCorners j (box_in ls hs) n p
    → AtCorners j (box_in ls' hs') n (with_high j.code j.memory n hs' p)
unfolding after
corners_below j ls hs ls' hs' n d e l w a =
    record {
      low = a.low ∙ ap (after j n) (lows_in ls hs d ∙ sym l ∙ sym (lows_in ls' hs' e));
      high = ap (after j n) (sym (highs_in ls' hs' e));
      tags = uniform_within w a.tags;
    }

module _ {j : Job} {m : Limits} {x : Lists} {s : Standing} {i : Instruction} (k : AtFork j m x s i) where
  abbrev h : Held j m (listed j s) x s
  h = k.held

  abbrev g : Group
  g = group_of x s

  -- the class at the low corner
  class_is : low_class i x ≡ class_of i (after j s.steps x.lows)
  class_is =
      ap (λ (r : List ℕ). class_of i (machine r)) (stands h k.group).low_registers
      ∙ class_by_registers i (low_state j g)
      ∙ ap (λ (c : Choice). class_of i (after j s.steps c)) (lows_in x.lows x.highs h.fits.paired)

  goes : end_by j g (corners_of j g) ≡ none
  goes = (says_forks (stands h k.group) k.forks).0

  fetched : Fetches j g i
  fetched = (says_forks (stands h k.group) k.forks).1

  apart : ¬ OneClass j g i
  apart = (says_forks (stands h k.group) k.forks).2

  abbrev good : Good j g
  good = (represented h k.group).1.good

  -- the group that a cut leads to is within the job's limits
  after_fork : (n : ℕ) × (q : ℕ)
      × (let v = input_of j g i in Running j n (listed j s) (later g (written j g i + 1) (below g.box v q)) (fork_at g v q ∷ forks_of x s))
  after_fork =
      let (n, r) = represented h k.group in
      let o = now_one r goes fetched in
      let (q, d) = edge_exists g.box good.sound.proper (one_input_convex g.box o) apart in
      (suc n, q, goes_forking r goes fetched o d)

  pub fork_entry : HasEntry x.table s.forks
  fork_entry = omega (arith, after_fork.2.entries_fit, forks_within h k.group, h.fits.table_fits)

  pub fork_used : entry_words * (s.used + (writes (ltb s.at.low.reads m.inputs) i + 1)) ≤ length x.table
  fork_used = omega (arith, written_is h k.group i, after_fork.2.entries_fit, h.fits.table_fits)

  pub fork_steps : s.steps + 1 ≤ m.steps
  fork_steps = omega (arith, within_limit j h.fits.sound after_fork.2, h.fits.limit)

  -- by what the code has found: the tag of the class, and the class at the low corner
  module _ (tag : ℕ) (hangs : Hangs i x.machines.low x.machines.high x.machines.tags tag) where
    one : OneInput g.box tag (class_at j s.steps i)
    one = let r = (represented h k.group).1 in
        hangs_on j g.box good.sound i s.at x.machines (h.corners k.group) (known r goes fetched).0.settled hangs

    cuts : Cuttable (class_at j s.steps i) (box_in x.lows x.highs) tag
    cuts = cuttable g.box good.sound.proper one apart

    pub tag_inside : tag < length x.lows
    tag_inside = omega (arith, cuts.inside, length_in x.lows x.highs h.fits.paired)

    module _ (c : ℕ) (class : c ≡ low_class i x) where
      pub fork_partable : Partable (probed j.code j.memory s.steps i x.highs tag) c tag x.lows x.highs
      fork_partable = record {
        paired = h.fits.paired;
        inside = tag_inside;
        starts = rw (class, class_is) (starts_in j x.lows x.highs h.fits.paired s.steps s.used i tag cuts);
      }

      module _ (y : Lists) (a : Corners) (q : ℕ) (l : y.lows ≡ x.lows)
          (p : Parted (probed j.code j.memory s.steps i x.highs tag) c tag x.lows x.highs y.highs q)
          (f : OnTop (fork_of tag (get_or x.lows tag 0) (get_or x.highs tag 0) (q + 1) s.steps s.used) x.table s.forks y.table)
        where
          edge : EdgeAt j g i tag q
          edge =
              parted_edge j x.lows x.highs h.fits.paired s.steps s.used i tag good.sound.proper one
              (rw (class, class_is) at p)

          turn : Turn j (running (listed j s) g (forks_of x s))
              (running (listed j s) (later g (written j g i + 1) (below g.box tag q)) (fork_at g tag q ∷ forks_of x s))
          turn = forking goes fetched one edge

          below_box : box_in y.lows y.highs ≡ below g.box tag q
          below_box = rw l (parted_below h.fits.paired p)

          on_top : OnTop (fork_at g tag q) x.table s.forks y.table
          on_top = rw (lows_in x.lows x.highs h.fits.paired, highs_in x.lows x.highs h.fits.paired) f

          held_forking : length y.table ≡ length x.table
              → corners_in y a ≡ advanced x.lows y.highs i (with_high j.code j.memory s.steps y.highs (corners_in x s.at))
              → Held j m (listed j s) y (forked m s i a)
          held_forking t z =
              let fits = fits_parted h.fits l p t in
              let r = forked m s i a in
              let reached : Reached j (running (listed j s) (group_of y r) (forks_of y r)) =
              rw (written_is h k.group i, add-one s.forks, on_top, below_box) (turned h k.group turn) in
              let within : Within (box_in y.lows y.highs) g.box = rw below_box (below_within edge.splits) in
              let row : fetch j.code s.at.low.pc ≡ Some i = rw (stands h k.group).pc fetched in
              record {
                fits = fits;
                reached = reached;
                corners = λ _. rw (z, ← l) (corners_next j y.lows y.highs s.steps _ fits.paired (reached_represents fits.sound reached).1.good row
                    (corners_below j x.lows x.highs y.lows y.highs s.steps h.fits.paired fits.paired l within (h.corners k.group)));
                count = h.count;
              }

          work_forking : work j y (forked m s i a) < work j x s
          unfolding state_of
          work_forking =
              let r = forked m s i a in
              let v : weight j (groups_left j AtGroup (group_of y r) (forks_of y r))
              ≡ weight j (state_of j
              (running (listed j s) (later g (written j g i + 1) (below g.box tag q)) (fork_at g tag q ∷ forks_of x s))).waiting =
              rw (written_is h k.group i, add-one s.forks, on_top, below_box) in
              omega (arith, lighter h k.group turn, v, work_running j x s k.group, work_running j y r refl)

          pub fork_done : length y.table ≡ length x.table
              → corners_in y a ≡ advanced x.lows y.highs i (with_high j.code j.memory s.steps y.highs (corners_in x s.at))
              → GoesOn j m x s y (forked m s i a)
          fork_done t z = record { held = held_forking t z; paths = refl; goes = refl; less = work_forking }
