-- Turns between two groups: a fork with nothing left goes, and what is left of the latest fork is taken up.
-- Assumes nothing.
use mathlib.Core.Path.{◌≡◌, refl, sym, ap, ◌∙◌, subst}
use mathlib.Core.Logic.{◌≢◌, ⊎_elim}
use mathlib.Core.Bool.{true, false}
use mathlib.Core.List.{List, ◌∷◌}
use Prim.Native.Nat.{ℕ, suc, ◌+◌, ◌-◌, ◌*◌, ◌≤◌, ◌<◌}
use native.Mathlib.Omega.{arith}
use native.Mathlib.Decide.{ℕ_discrete}
use lib.Dec.{ltb}
use lib.ListN.{length, get_or}
use Rattle.boxes.specs.Boxes.{Box, Choice, Within, ◌⋯◌, lows, highs}
use Rattle.boxes.specs.Working.Cuts.{OneInput, cut, below, box_in}
use Rattle.boxes.proofs.Cut.{below_within}
use Rattle.boxes.proofs.OneInput.{one_input_convex}
use Rattle.boxes.proofs.Pieces.{edge_exists}
use Rattle.riscu.specs.Machine.{State, fetch}
use Rattle.riscu.specs.declared.Instruction.{Instruction}
use Rattle.std.specs.Prelude.{Option, Some, None}
use Rattle.listing.specs.Group.{Job, Group, after, class_of}
use Rattle.listing.specs.Ending.{writes}
use Rattle.listing.specs.Listing.{Path, Progress, later}
use Rattle.forks.specs.Working.Stack.{Fork, Resting, before, left, written, spend, shorten, with_rest, waiting_of}
use Rattle.forks.specs.Working.Turn.{Position, running, resting, Turn, dropping, whole_rest, first_part, Reached, turns, state_of, OneClass, EdgeAt, class_at}
use Rattle.calls.specs.Limits.{entry_words}
use Rattle.forks.specs.Working.Table.{fork_in, forks_in, HasEntry}
use Rattle.forks.proofs.Table.{forks_count}
use Rattle.boxes.proofs.TwoLists.{lows_in, highs_in, length_in}
use Rattle.forks.proofs.Parts.{fetched_part, written_part}
use Rattle.forks.proofs.Turns.{known_fork, rest_within, rest_proper, rest_good, rest_one, rest_cuttable, takes_whole, takes_first}
use Rattle.forks.proofs.Positions.{reached_represents, turn_represents, represents_moves, within_limit, depth}
use Rattle.decide.specs.Working.Corner.{machine}
use Rattle.lockstep.specs.Working.LockStep.{both, advanced, lock_steps, starting, AtCorners}
use Rattle.decide.proofs.Decisions.{class_by_registers}
use Rattle.decide.specs.declared.Limits.{Limits}
use Rattle.lockstep.specs.declared.Corners.{Corners}
use Rattle.cuts.specs.Working.Cutting.{probed, Starts}
use Rattle.cuts.specs.Working.Forking.{Parted}
use Rattle.cuts.proofs.Edges.{starts_in, parted_edge, parted_below}
use Rattle.lockstep.specs.declared.Machines.{Machines}
use Rattle.explorer.specs.Working.Held.{Lists, lists, group_of, forks_of, latest, listed, corners_in, with_high, low_class, high_class, at_group, Held, Rest, AtRest, GoesOn, Takeable, TakenUp, dropped, resumed, groups_left, work}
use Rattle.explorer.specs.declared.Phase.TheVariants.{AtGroup, Between}
use Rattle.explorer.specs.declared.Standing.{Standing}
use Rattle.boxes.proofs.Lists.{not_both}
use Rattle.explorer.proofs.Stands.{fits_again, fits_parted, work_running, work_resting}
use Rattle.explorer.proofs.Straight.{corners_next}
use Rattle.explorer.proofs.Forking.{replayed_to, corners_below}
use Rattle.corners.specs.Working.Good.{low_state, high_state, weight}

-- a word is no instruction or one
module _ {d : Option Instruction} {i : Instruction} (e : d ≡ Some i) where
  pub one_row : {r : Instruction} → d ≡ Some r → r ≡ i
  one_row q = cc

  pub some_row : {A : Type 0} → d ≡ None → A
  some_row q = let v : ◌≡◌ {A = ℕ} 0 1 = cc in absurd (omega arith)

pub forks_top : (t : List ℕ) (n : ℕ) → 0 < n → forks_in t n ≡ fork_in t (n - 1) ∷ forks_in t (n - 1)
unfolding forks_in
forks_top t n l = let e : n ≡ suc (n - 1) = omega arith in ap (forks_in t) e

pub forks_at : {fs : List Fork} (t : List ℕ) (n : ℕ) → 0 < n → forks_in t (suc (n - 1)) ≡ fs → forks_in t n ≡ fs
forks_at t n l e = let d : n ≡ suc (n - 1) = omega arith in ap (forks_in t) d ∙ e

-- between two groups, with a fork
module _ {j : Job} {m : Limits} {ps : List Path} {x : Lists} {s : Standing} (h : Held j m ps x s) (e : s.phase ≡ Between)
    (some : 0 < s.forks) where
  pub between : Reached j (resting ps (group_of x s) (latest x s ∷ forks_in x.table (s.forks - 1)))
  between = rw (forks_top x.table s.forks some) at (rw e at h.reached)

  abbrev rests : (n : ℕ) × Resting j n ps (group_of x s) (latest x s ∷ forks_in x.table (s.forks - 1))
  rests = reached_represents h.fits.sound between

  -- the fork's input is one of the box's, and its entry lies within the table
  pub top_inside : (latest x s).input < length x.lows
  top_inside = omega (arith, (known_fork rests.1).inside, length_in x.lows x.highs h.fits.paired)

  pub top_entry : HasEntry x.table (s.forks - 1)
  top_entry =
      let r = rests.1 in
      omega (
        arith,
        (known_fork r).entries_fit,
        depth j (forks_in x.table (s.forks - 1)) (before (latest x s) (group_of x s).box) r.stacked.1,
        forks_count x.table (s.forks - 1),
        h.fits.table_fits,
      )

  -- a turn between two groups is no move
  waits : {t : Position} → Turn j (resting ps (group_of x s) (latest x s ∷ forks_in x.table (s.forks - 1))) t
      → (state_of j t).waiting ≡ groups_left j Between (group_of x s) (forks_of x s)
  unfolding state_of
  waits {t} d =
      let (n, r) = rests in
      let fs = latest x s ∷ forks_in x.table (s.forks - 1) in
      ap (λ (p : Progress). p.waiting)
      (sym (represents_moves j t n (turn_represents n d r)) ∙ represents_moves j (resting ps (group_of x s) fs) n r)
      ∙ ap (λ (fs : List Fork). waiting_of j fs (box_in x.lows x.highs)) (sym (forks_top x.table s.forks some))

  -- A fork with nothing left goes.
  module _ (t : (latest x s).spent ≡ true) (ls hs : List ℕ)
      (b : box_in ls hs ≡ cut (box_in x.lows x.highs) (latest x s).input ((latest x s).low ⋯ (latest x s).high))
      (p : length ls ≡ length x.lows) (q : length hs ≡ length x.highs) where
    abbrev kept : Lists
    kept = lists ls hs x.table x.machines

    turn : Turn j (resting ps (group_of x s) (latest x s ∷ forks_in x.table (s.forks - 1)))
        (resting ps (before (latest x s) (group_of x s).box) (forks_in x.table (s.forks - 1)))
    turn = dropping t

    pub held_dropped : Held j m ps kept (dropped (latest x s) s)
    held_dropped = record {
      fits = fits_again h.fits p q refl;
      reached = rw b (turns between turn);
      corners = λ z. not_both refl (ap at_group z);
      count = h.count;
    }

    pub work_dropped : work j kept (dropped (latest x s) s) < work j x s
    unfolding state_of
    work_dropped =
        let v : weight j (groups_left j Between (group_of kept (dropped (latest x s) s)) (forks_of kept (dropped (latest x s) s)))
        ≡ weight j (state_of j (resting ps (before (latest x s) (group_of x s).box) (forks_in x.table (s.forks - 1)))).waiting =
        rw b in
        omega (arith, v, ap (weight j) (waits turn), work_resting j x s e, work_resting j kept (dropped (latest x s) s) refl)

  -- What is left of it is taken up: the box of the rest, both corners replayed to the fork.
  module _ (t : (latest x s).spent ≡ false) (ls hs : List ℕ)
      (b : box_in ls hs ≡ cut (box_in x.lows x.highs) (latest x s).input ((latest x s).rest ⋯ (latest x s).high))
      (p : length ls ≡ length x.lows) (q : length hs ≡ length x.highs) where
    rest_row : fetch j.code (low_state j (left (latest x s) (group_of x s).box)).pc ≡ Some (known_fork rests.1).instruction
    rest_row = let r = rests.1 in
        fetched_part j (before (latest x s) (group_of x s).box) (known_fork r).good (left (latest x s) (group_of x s).box).box
        (rest_within r) (rest_proper r) (known_fork r).followed

    module _ (y : Machines) (a : Corners)
        (z : both a y ≡ lock_steps ls hs j.code (latest x s).steps (starting j.memory)) where
      there : AtCorners j (box_in ls hs) (latest x s).steps (both a y)
      there =
          rw z (replayed_to j ls hs (latest x s).steps (latest x s).used (p ∙ h.fits.paired ∙ sym q) (rw b (rest_good rests.1)))

      low_pc : a.low.pc ≡ (low_state j (left (latest x s) (group_of x s).box)).pc
      low_pc = ap (λ (t : State). t.pc) there.low ∙ rw b

      pub rest_fetches : fetch j.code a.low.pc ≡ Some (known_fork rests.1).instruction
      rest_fetches = rw low_pc rest_row

      pub held_rest : (i : Instruction) → fetch j.code a.low.pc ≡ Some i → Rest j m ps (group_of x s) (lists ls hs x.table y) s i a
      held_rest i f = record {
        fits = fits_again h.fits p q refl;
        reached = between;
        some = some;
        unspent = t;
        box = b;
        corners = there;
        fetched = rw low_pc at f;
        count = h.count;
      }

-- A part of the rest is taken up.
module _ {j : Job} {m : Limits} {ps : List Path} {g : Group} {x : Lists} {s : Standing} {i : Instruction} {a : Corners}
    (h : Rest j m ps g x s i a) where
  abbrev f : Fork
  f = latest x s

  abbrev fs : List Fork
  fs = forks_in x.table (s.forks - 1)

  abbrev rest : Group
  rest = left f g.box

  rests_there : (n : ℕ) × Resting j n ps g (f ∷ fs)
  rests_there = reached_represents h.fits.sound h.reached

  -- the classes at the two corners
  pub class_low : low_class i x ≡ class_of i (after j f.steps x.lows)
  class_low =
      ap (λ (t : State). class_of i (machine t.registers)) h.corners.low
      ∙ class_by_registers i (after j f.steps (lows (box_in x.lows x.highs)))
      ∙ ap (λ (c : Choice). class_of i (after j f.steps c)) (lows_in x.lows x.highs h.fits.paired)

  pub class_high : high_class i x ≡ class_of i (after j f.steps x.highs)
  class_high =
      ap (λ (t : State). class_of i (machine t.registers)) h.corners.high
      ∙ class_by_registers i (after j f.steps (highs (box_in x.lows x.highs)))
      ∙ ap (λ (c : Choice). class_of i (after j f.steps c)) (highs_in x.lows x.highs h.fits.paired)

  low_there : low_state j rest ≡ after j f.steps x.lows
  low_there = rw (← h.box, lows_in x.lows x.highs h.fits.paired)

  high_there : high_state j rest ≡ after j f.steps x.highs
  high_there = rw (← h.box, highs_in x.lows x.highs h.fits.paired)

  same_class : low_class i x ≡ high_class i x → OneClass j rest i
  same_class e = ap (class_of i) low_there ∙ sym class_low ∙ e ∙ class_high ∙ sym (ap (class_of i) high_there)

  other_class : low_class i x ≢ high_class i x → ¬ OneClass j rest i
  other_class e q = e (class_low ∙ sym (ap (class_of i) low_there) ∙ q ∙ ap (class_of i) high_there ∙ sym class_high)

  pub rest_starts : low_class i x ≢ high_class i x
      → Starts (probed j.code j.memory f.steps i x.highs f.input) (class_of i (after j f.steps x.lows))
      (get_or x.lows f.input 0) (get_or x.highs f.input 0)
  rest_starts e = starts_in j x.lows x.highs h.fits.paired f.steps f.used i f.input
      (rw h.box (rest_cuttable rests_there.1 h.unspent h.fetched (other_class e)))

  pub written_there : writes (ltb a.low.reads m.inputs) i ≡ written j rest i
  written_there =
      (λ k. writes (ltb ((ap (λ (t : State). t.reads) h.corners.low ∙ ap (λ (b : Box). (after j f.steps (lows b)).reads) h.box) k)
      ((sym h.fits.inputs ∙ sym (length_in x.lows x.highs h.fits.paired) ∙ ap length h.box) k)) i)

  -- the instruction at the low corner
  row : fetch j.code a.low.pc ≡ Some i
  row = rw (ap (λ (t : State). t.pc) h.corners.low, h.box) h.fetched

  -- a turn from here is no move
  module _ {t : Position} (d : Turn j (resting ps g (f ∷ fs)) t) where
    taken : Reached j t
    taken = turns h.reached d

    unmoved : (state_of j t).waiting ≡ waiting_of j (f ∷ fs) g.box
    unfolding state_of
    unmoved =
        let (n, r) = rests_there in
        ap (λ (p : Progress). p.waiting)
        (sym (represents_moves j t n (turn_represents n d r)) ∙ represents_moves j (resting ps g (f ∷ fs)) n r)

  rest_is : i ≡ (known_fork rests_there.1).instruction
  rest_is =
      let r = rests_there.1 in
      let d = fetched_part j (before f g.box) (known_fork r).good rest.box (rest_within r) (rest_proper r)
      (known_fork r).followed in
      let q = h.fetched in
      cc

  -- its class hangs on the fork's input
  rest_along : OneInput rest.box f.input (class_at j f.steps i)
  rest_along = rw rest_is (rest_one rests_there.1 h.unspent)

  -- the group one step later is within the job's limits
  next_steps : f.steps + 1 ≤ j.limit
  next_steps =
      let (n, r) = rests_there in
      elim (ℕ_discrete (class_of i (low_state j rest)) (class_of i (high_state j rest))) [
        | yes e ↦ within_limit j h.fits.sound (takes_whole r h.unspent h.fetched e)
        | no e ↦ (
            let b = rest.box in
            within_limit j h.fits.sound
            (takes_first r h.unspent h.fetched (edge_exists b (rest_proper r) (one_input_convex b rest_along) e).1))
      ]

  pub rest_steps : f.steps + 1 ≤ m.steps
  rest_steps = omega (arith, next_steps, h.fits.limit)

  pub rest_used : entry_words * (f.used + (writes (ltb a.low.reads m.inputs) i + 1)) ≤ length x.table
  rest_used =
      let r = rests_there.1 in
      let w = written_part j (before f g.box) (known_fork r).good rest.box (rest_within r) (rest_proper r)
      (known_fork r).instruction in
      omega (arith, (known_fork r).entries_fit, w, written_there, ap (written j rest) rest_is, h.fits.table_fits)

  -- what is left to do before it is taken up, v being the lists then
  abbrev Before : Lists → Type 0
  Before v = work j v s ≡ 4 * weight j (waiting_of j (f ∷ fs) g.box) + 2 * s.forks + 1

  -- whole, where the class is the same at both corners
  module _ (t : List ℕ) (n : Machines) (b : Corners) (z : forks_in t s.forks ≡ spend f ∷ fs) (e : low_class i x ≡ high_class i x) where
    abbrev whole : Lists
    whole = lists x.lows x.highs t n

    turn_whole : Turn j (resting ps g (f ∷ fs)) (running ps (later rest (written j rest i + 1) rest.box) (spend f ∷ fs))
    turn_whole = whole_rest h.unspent h.fetched (same_class e)

    pub held_whole : length t ≡ length x.table → both b n ≡ advanced x.lows x.highs i (corners_in x a)
        → Held j m ps whole (resumed m f s i a b)
    held_whole y q =
        let r = resumed m f s i a b in
        let reached : Reached j (running ps (group_of whole r) (forks_of whole r)) = rw (z, written_there, h.box) (taken turn_whole) in
        record {
          fits = fits_again h.fits refl refl y;
          reached = reached;
          corners = λ _. rw q (corners_next j x.lows x.highs f.steps _ h.fits.paired (reached_represents h.fits.sound reached).1.good row h.corners);
          count = h.count;
        }

    pub work_whole : (v : Lists) → Before v → work j whole (resumed m f s i a b) < work j v s
    unfolding state_of
    work_whole v q =
        let r = resumed m f s i a b in
        let p : weight j (groups_left j AtGroup (group_of whole r) (forks_of whole r))
        ≡ weight j (state_of j (running ps (later rest (written j rest i + 1) rest.box) (spend f ∷ fs))).waiting =
        rw (z, written_there, h.box) in
        omega (arith, p, q, ap (weight j) (unmoved turn_whole), work_running j whole r refl)

  -- the part below a cut
  module _ (y : Lists) (b : Corners) (q : ℕ) (l : y.lows ≡ x.lows)
      (p : Parted (probed j.code j.memory f.steps i x.highs f.input) (class_of i (after j f.steps x.lows)) f.input
      x.lows x.highs y.highs q)
      (z : forks_in y.table s.forks ≡ with_rest f (q + 1) ∷ fs) where
    below_box : box_in y.lows y.highs ≡ below rest.box f.input q
    below_box = rw l (parted_below h.fits.paired p) ∙ ap (λ (b : Box). below b f.input q) h.box

    edge : EdgeAt j rest i f.input q
    edge =
        let r = rests_there.1 in
        rw h.box at (parted_edge j x.lows x.highs h.fits.paired f.steps f.used i f.input (rw h.box (rest_proper r))
        (rw h.box rest_along) p)

    turn_first : Turn j (resting ps g (f ∷ fs))
        (running ps (later rest (written j rest i + 1) (below rest.box f.input q)) (shorten f q ∷ fs))
    turn_first = first_part h.unspent h.fetched edge

    shortened : forks_in y.table s.forks ≡ shorten f q ∷ fs
    shortened = z ∙ rw h.unspent

    pub held_first : length y.table ≡ length x.table
        → corners_in y b ≡ advanced x.lows y.highs i (with_high j.code j.memory f.steps y.highs (corners_in x a))
        → Held j m ps y (resumed m f s i a b)
    held_first t d =
        let fits = fits_parted h.fits l p t in
        let r = resumed m f s i a b in
        let reached : Reached j (running ps (group_of y r) (forks_of y r)) = rw (shortened, written_there, below_box) (taken turn_first) in
        let within : Within (box_in y.lows y.highs) (box_in x.lows x.highs) = rw (below_box, h.box) (below_within edge.splits) in
        record {
          fits = fits;
          reached = reached;
          corners = λ _. rw (d, ← l) (corners_next j y.lows y.highs f.steps _ fits.paired (reached_represents fits.sound reached).1.good row
              (corners_below j x.lows x.highs y.lows y.highs f.steps h.fits.paired fits.paired l within h.corners));
          count = h.count;
        }

    pub work_first : (v : Lists) → Before v → work j y (resumed m f s i a b) < work j v s
    unfolding state_of
    work_first v e =
        let r = resumed m f s i a b in
        let d : weight j (groups_left j AtGroup (group_of y r) (forks_of y r))
        ≡ weight j (state_of j (running ps (later rest (written j rest i + 1) (below rest.box f.input q)) (shorten f q ∷ fs))).waiting =
        rw (shortened, written_there, below_box) in
        omega (arith, d, e, ap (weight j) (unmoved turn_first), work_running j y r refl)

-- The whole turn, by what the code has found: f is the latest fork as it was read from the table, ls and hs hold its rest, and the
-- machines y at a are replayed to it.
module _ {j : Job} {m : Limits} {x : Lists} {s : Standing} {f : Fork} (h : AtRest j m x s f) (ls hs : List ℕ)
    (b : box_in ls hs ≡ cut (box_in x.lows x.highs) f.input (f.rest ⋯ f.high))
    (p : length ls ≡ length x.lows) (q : length hs ≡ length x.highs) (y : Machines) (a : Corners)
    (z : both a y ≡ lock_steps ls hs j.code f.steps (starting j.memory)) where
  abbrev pub rest_lists : Lists
  rest_lists = lists ls hs x.table y

  abbrev k : f ≡ latest x s
  k = h.top

  abbrev unspent : (latest x s).spent ≡ false
  unspent = rw k at h.unspent

  module _ (i : Instruction) (d : (r : Instruction) → fetch j.code a.low.pc ≡ Some r → i ≡ r) where
    rest_held : Rest j m (listed j s) (group_of x s) rest_lists s i a
    rest_held =
        let e = rest_fetches h.held h.between h.some unspent ls hs (rw k at b) p q y a (rw k at z) in
        held_rest h.held h.between h.some unspent ls hs (rw k at b) p q y a (rw k at z) i (e ∙ ap Some (sym (d _ e)))

    pub take_steps : f.steps + 1 ≤ m.steps
    take_steps = rw k (rest_steps rest_held)

    pub take_used : entry_words * (f.used + (writes (ltb a.low.reads m.inputs) i + 1)) ≤ length x.table
    take_used = rw k (rest_used rest_held)

    pub takeable : Takeable j.code j.memory i (s.forks - 1) f.input f.steps rest_lists
    takeable = record {
      paired = rest_held.fits.paired;
      inside = omega (arith, ap (λ (e : Fork). e.input) k, top_inside h.held h.between h.some, p);
      entry = top_entry h.held h.between h.some;
      starts = λ e. rw (k, class_low rest_held) (rest_starts rest_held e);
    }

    resting_work : work j x s ≡ 4 * weight j
        (waiting_of j (latest x s ∷ forks_in x.table (s.forks - 1)) (box_in x.lows x.highs)) + 2 * s.forks + 1
    resting_work = rw (forks_top x.table s.forks h.some) at (work_resting j x s h.between)

    pub taken_up : (v : Lists) (c : Corners) → length v.table ≡ length x.table
        → TakenUp j.code j.memory i (s.forks - 1) f.input f.steps rest_lists a v c → GoesOn j m x s v (resumed m f s i a c)
    taken_up v c l = ⊎_elim
        (λ (n, t).
        let back : lists ls hs v.table v.machines ≡ v = λ e. lists (sym t.lows e) (sym t.highs e) v.table v.machines in
        let forks = forks_at v.table s.forks h.some t.forks in
        rw k (subst (λ (v : Lists). GoesOn j m x s v (resumed m (latest x s) s i a c)) back (record {
          held = held_whole rest_held v.table v.machines c forks n l t.corners;
          paths = refl;
          goes = refl;
          less = work_whole rest_held v.table v.machines c forks n x resting_work;
        })))
        (λ (n, t).
        let parted = rw (k, class_low rest_held) at t.parted in
        let forks = forks_at v.table s.forks h.some t.forks in
        rw k (record {
          held = held_first rest_held v c t.edge t.lows parted forks l (rw k at t.corners);
          paths = refl;
          goes = refl;
          less = work_first rest_held v c t.edge t.lows parted forks x resting_work;
        }))
