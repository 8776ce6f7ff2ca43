-- Each turn of the explorer is one move of the plain listing: a group that goes on without a fork, one that forks, one that ends; and
-- a waiting group is taken up from the stack with no move.
-- Assumes nothing.
use mathlib.Core.Path.{◌≡◌, refl, sym, ap, ◌∙◌, subst}
use mathlib.Core.Logic.{◌≢◌}
use mathlib.Core.Bool.{Bool, true, false, cond, not}
use mathlib.Core.List.{List, [], ◌∷◌, ◌++◌, map}
use mathlib.Core.Option.{none, some}
use Prim.Native.Nat.{ℕ, suc, ◌+◌, ◌-◌, ◌≤◌, ◌<◌}
use native.Mathlib.Nat.{add-zero}
use native.Mathlib.Numerals.{add-one}
use native.Mathlib.Omega.{arith}
use lib.Dec.{eqb}
use lib.ListN.{length, length-set, length-map, set}
use lib.Seq.{set-set, set-get_or, get_or-set_same}
use borrow.Author.Tests.{eq-eqb, ne_eqb}
use Rattle.boxes.specs.Boxes.{Choice, ◌⋯◌, Box, at, pieces, lows, highs, Within}
use Rattle.boxes.specs.Working.Cuts.{Proper, OneInput, below, above, Edge}
use Rattle.boxes.proofs.Places.{nonempty}
use Rattle.boxes.proofs.Choices.{lows_inside, highs_inside, inside_set}
use Rattle.boxes.proofs.OneInput.{constant_corner, one_input_convex, one_input_same, one_input_within}
use Rattle.boxes.proofs.Cut.{cut_same, low_cut, high_cut, cut_narrow, proper_narrow, in_range, below_within, above_within, highs_above}
use Rattle.boxes.proofs.Cut.{proper_below, proper_above}
use Rattle.boxes.proofs.Partition.{pieces_partition, pieces_fork}
use Rattle.boxes.proofs.Pieces.{pieces_one, pieces_cut, class_below, class_above, edge_exists}
use Rattle.riscu.specs.declared.Instruction.{Instruction}
use Rattle.listing.specs.Group.{Job, Group, view_of, class_of}
use Rattle.listing.specs.Ending.{needs, end_by, end_of}
use Rattle.listing.specs.Listing.{Path, progress, later, path_of, split_by, move_by, move_from, moves, begin, whole}
use Rattle.listing.specs.declared.End.{End}
use Rattle.corners.proofs.Corner.{class_one, end_agrees}
use Rattle.corners.proofs.Moves.{continues, followed, good_later}
use Rattle.corners.proofs.CornerListing.{path_agrees}
use Rattle.forks.specs.Working.Stack.{Fork, before, left, fork_at, rest_at, shorten, spend, written, rest_by, rest_of, waiting_of, Forked, Stacked}
use Rattle.forks.specs.Working.Stack.{Running, Resting}
use Rattle.forks.specs.Working.Turn.{class_at, Fetches, OneClass, EdgeAt, Cuttable}
use Rattle.forks.proofs.Parts.{good_part, written_part, fetched_part, rest_part}
use Rattle.corners.specs.Working.Smooth.{Same, Followed}
use Rattle.corners.specs.Working.Good.{Sound, Good, low_state, high_state, input_of, corners_of}

-- the class is the same all over where it is at the corners, and below an edge; the corners differ where there is an edge

module _ {k : Choice → ℕ} {x : ℕ} (b : Box) (p : Proper b) (o : OneInput b x k) where
  same_corner : k (lows b) ≡ k (highs b) → Same b k
  same_corner e c d m n = constant_corner b p o e c m ∙ sym (constant_corner b p o e d n)

  -- the other inputs may be at their lowest or at their highest
  same_along : (v : ℕ) → x < length b → at (lows b) x ≤ v → v ≤ at (highs b) x → k (set (highs b) x v) ≡ k (set (lows b) x v)
  same_along v y l h =
      let t : at (set (lows b) x v) x ≡ v = get_or-set_same (lows b) x v 0 (rw length-map y) in
      let u : at (set (highs b) x v) x ≡ v = get_or-set_same (highs b) x v 0 (rw length-map y) in
      one_input_same b o (set (highs b) x v) (set (lows b) x v) (inside_set b (highs b) x v (highs_inside b p) l h)
      (inside_set b (lows b) x v (lows_inside b p) l h) (u ∙ sym t)

  pub cuttable : k (lows b) ≢ k (highs b) → Cuttable k b x
  cuttable d =
      let s = (edge_exists b p (one_input_convex b o) d).1.splits in
      let y : x < length b = in_range b x (omega arith) in
      record {
        inside = y;
        wide = omega arith;
        bottom = same_along (at (lows b) x) y (omega arith) (omega arith) ∙ ap k (set-get_or (lows b) x 0);
        top = λ e. d (sym e ∙ ap k (set-get_or (highs b) x 0));
      }

  -- the edge that such a search finds
  pub edge_along : {m : ℕ} → at (lows b) x ≤ m → m < at (highs b) x → k (set (highs b) x m) ≡ k (lows b)
      → k (set (highs b) x (suc m)) ≢ k (lows b) → Edge k b x m
  edge_along {m} l h c n =
      let y : x < length b = in_range b x (omega arith) in
      record {
        splits = record { lowest = l; highest = h };
        class = sym (same_along m y l (omega arith)) ∙ c;
        next = λ e. n (same_along (suc m) y (omega arith) (omega arith) ∙ e);
      }

  module _ {m : ℕ} (e : Edge k b x m) where
    same_below : Same (below b x m) k
    same_below c d r s = let z = one_input_convex b o in class_below p z e c r ∙ sym (class_below p z e d s)

    corners_differ : k (lows b) ≢ k (highs b)
    corners_differ h =
        let s = e.splits in
        let a = above b x m in
        class_above p (one_input_convex b o) e (highs a) (highs_inside a (proper_above s p)) (rw (highs_above s) (sym h))

-- the stack below a group with more entries in use
stacked_on : (j : Job) (fs : List Fork) (g : Group) (m v : ℕ) → g.used ≤ v → Stacked j fs g
    → Stacked j fs (record { box = g.box; steps = m; used = v })
stacked_on j [] g m v l s = tt
stacked_on j (f ∷ fs) g m v l (k, s) = (
  record {
    good = k.good;
    instruction = k.instruction;
    followed = k.followed;
    one = k.one;
    inside = k.inside;
    from_low = k.from_low;
    to_high = k.to_high;
    counted = omega (arith, k.counted);
    entries_fit = k.entries_fit;
  },
  s,
)

-- At first.
pub starts : (j : Job) → Sound j j.box → Running j 0 [] (whole j) []
unfolding moves begin waiting_of
starts j s = record {
  moved = refl;
  good = record { sound = s; smooth = λ x l. absurd (omega arith) };
  entries_fit = omega arith;
  stacked = tt;
}

module _ {j : Job} {n : ℕ} {ps : List Path} {g : Group} {fs : List Fork} (r : Running j n ps g fs) where
  turned : moves view_of j (suc n) ≡ move_from view_of j ps (g ∷ waiting_of j fs g.box)
  unfolding moves
  turned = rw r.moved

  -- The group ends.
  pub ends : {e : End} → end_by j g (corners_of j g) ≡ some e → Resting j (suc n) (ps ++ (path_of g (corners_of j g) e ∷ [])) g fs
  unfolding move_from move_by
  ends {e} d = record {
    moved = turned ∙ rw (end_agrees j g r.good, d, path_agrees j g r.good e);
    stacked = r.stacked;
  }

  module _ (goes : end_by j g (corners_of j g) ≡ none) {i : Instruction} (fetched : Fetches j g i) where
    goes_on : end_of j g ≡ none
    goes_on = end_agrees j g r.good ∙ goes

    -- what is known of its instruction
    pub known : Followed j g.box g.steps i × (needs g (view_of j g) i ≤ j.entries - g.used)
    known =
        let k = continues j g goes_on in
        let e : k.instruction ≡ i = cc k.fetched in
        subst (λ (x : Instruction). Followed j g.box g.steps x × (needs g (view_of j g) x ≤ j.entries - g.used)) e
        (followed j g r.good k, k.entries_fit)

    pub now_one : OneInput g.box (input_of j g i) (class_at j g.steps i)
    now_one = class_one j g r.good i known.0.settled

    needs_are : needs g (view_of j g) i ≡ written j g i + cond (not (eqb (class_of i (low_state j g)) (class_of i (high_state j g)))) 1 0
    unfolding needs
    needs_are = rw (pieces_fork g.box r.good.sound.proper now_one)

    entries_left : g.used + needs g (view_of j g) i ≤ j.entries
    entries_left = omega (arith, known.1, r.entries_fit)

    split : moves view_of j (suc n)
        ≡ progress ps (map (later g (needs g (view_of j g) i)) (pieces (class_at j g.steps i) g.box) ++ waiting_of j fs g.box)
    unfolding move_from move_by split_by
    split = turned ∙ rw (goes_on, fetched)

    -- The group goes on and does not fork.
    pub goes_straight : OneClass j g i → Running j (suc n) ps (later g (written j g i) g.box) fs
    goes_straight e =
        let p = r.good.sound.proper in
        let s = same_corner g.box p now_one e in
        let w : needs g (view_of j g) i ≡ written j g i =
        needs_are ∙ rw (eq-eqb (class_of i (low_state j g)) (class_of i (high_state j g)) e) (add-zero (written j g i)) in
        record {
          moved = split ∙ rw (w, pieces_one (class_at j g.steps i) g.box p (constant_corner g.box p now_one e));
          good = good_later j g r.good g.box (λ c m. m) p known.0 s (written j g i);
          entries_fit = rw w at entries_left;
          stacked = stacked_on j fs g _ _ (omega arith) r.stacked;
        }

    -- The group goes on and forks: the part up to the edge is taken at once.
    pub goes_forking : {x m : ℕ} → OneInput g.box x (class_at j g.steps i) → EdgeAt j g i x m
        → Running j (suc n) ps (later g (written j g i + 1) (below g.box x m)) (fork_at g x m ∷ fs)
    unfolding waiting_of
    goes_forking {x} {m} o e =
        let b = g.box in
        let p = r.good.sound.proper in
        let s = e.splits in
        let l = class_of i (low_state j g) in
        let h = class_of i (high_state j g) in
        let w : needs g (view_of j g) i ≡ written j g i + 1 = needs_are ∙ rw (ne_eqb l h (corners_differ b p o e)) in
        let f = fork_at g x m in
        let back : (before f (below b x m)).box ≡ b = rw (set-set, cut_same) in
        let up : f.rest ≡ suc m = omega arith in
        let over : (left f (below b x m)).box ≡ above b x m = rw (set-set, up) in
        record {
          moved =
              split ∙ rw (
                w,
                pieces_cut p (one_input_convex b o) e,
                back,
                over,
                rest_part j g r.good (above b x m) (above_within s) (proper_above s p) known.0,
              );
          good =
              good_later j g r.good (below b x m) (below_within s) (proper_below s p) known.0 (same_below b p o e)
              (written j g i + 1);
          entries_fit = rw w at entries_left;
          stacked = (
            record {
              good = rw back r.good;
              instruction = i;
              followed = rw back known.0;
              one = rw back o;
              inside = rw length-set (in_range b x (omega arith));
              from_low = omega arith;
              to_high = omega arith;
              counted = omega arith;
              entries_fit = rw (back, ← w) entries_left;
            },
            rw back r.stacked,
          );
        }

-- A fork with another rest, below another group: the same group stood before it.
reforked : {j : Job} {f : Fork} {g : Group} (h : Group) (x : ℕ) (s : Bool) → Forked j f g → (before f h.box).box ≡ (before f g.box).box
    → f.low ≤ x → x ≤ f.high → f.used < h.used → Forked j (rest_at f x s) h
reforked {f = f} {g = g} h x s k back l r u = record {
  good = rw back k.good;
  instruction = k.instruction;
  followed = rw back k.followed;
  one = rw back k.one;
  inside = omega (arith, k.inside, simp length-set at (ap length back));
  from_low = l;
  to_high = r;
  counted = u;
  entries_fit = rw back k.entries_fit;
}

module _ {j : Job} {n : ℕ} {ps : List Path} {g : Group} {f : Fork} {fs : List Fork} (r : Resting j n ps g (f ∷ fs)) where
  -- A fork with nothing left goes, and gives its input the interval back.
  pub drops : f.spent ≡ true → Resting j n ps (before f g.box) fs
  unfolding waiting_of
  drops t = record { moved = rw t at r.moved; stacked = r.stacked.1 }

  pub known_fork : Forked j f g
  known_fork = r.stacked.0

  pub rest_within : Within (left f g.box).box (before f g.box).box
  rest_within =
      let k = known_fork in cut_narrow g.box f.input k.inside (f.low ⋯ f.high) (f.rest ⋯ f.high) k.from_low (omega arith)

  pub rest_proper : Proper (left f g.box).box
  rest_proper =
      let k = known_fork in proper_narrow g.box f.input (f.low ⋯ f.high) (f.rest ⋯ f.high) k.good.sound.proper k.to_high

  pub rest_good : Good j (left f g.box)
  rest_good = good_part j (before f g.box) known_fork.good (left f g.box).box rest_within rest_proper

  module _ (t : f.spent ≡ false) where
    -- What waits.
    pub rest_waits : let i = known_fork.instruction in moves view_of j n
        ≡ progress ps (map (later (left f g.box) (written j (left f g.box) i + 1))
        (pieces (class_at j f.steps i) (left f g.box).box) ++ waiting_of j fs (before f g.box).box)
    unfolding waiting_of rest_by
    rest_waits =
        rw (
          t,
          fetched_part j (before f g.box) known_fork.good (left f g.box).box rest_within rest_proper
              known_fork.followed,
        ) at r.moved

    -- one of its parts is taken up, with another rest left
    taken : (q : Box) (x : ℕ) (s : Bool) → let k = known_fork in let a = left f g.box in let w = written j a k.instruction + 1 in
        Within q a.box → Proper q → Same q (class_at j f.steps k.instruction) → (before f q).box ≡ (before f g.box).box → f.low
        ≤ x → x ≤ f.high
        → map (later a w) (pieces (class_at j f.steps k.instruction) a.box)
        ≡ later a w q ∷ cond s [] (rest_of j (left (rest_at f x s) q))
        → Running j n ps (later a w q) (rest_at f x s ∷ fs)
    unfolding waiting_of
    taken q x s w p e back l h parts =
        let k = known_fork in
        let a = left f g.box in
        let c = before f g.box in
        let v : Within q c.box = λ d m. rest_within d (w d m) in
        let u = written_part j c k.good a.box rest_within rest_proper k.instruction in
        record {
          moved = rest_waits ∙ rw (parts, back);
          good = good_later j c k.good q v p k.followed e _;
          entries_fit = rw u k.entries_fit;
          stacked = (reforked (later a (written j a k.instruction + 1) q) x s k back l h (omega arith), rw back r.stacked.1);
        }

    pub rest_one : OneInput (left f g.box).box f.input (class_at j f.steps known_fork.instruction)
    rest_one = one_input_within (before f g.box).box (left f g.box).box rest_within known_fork.one

    pub rest_some : 0 < length (pieces (class_at j f.steps known_fork.instruction) (left f g.box).box)
    rest_some =
        let a = (left f g.box).box in
        nonempty _ ((pieces_partition a rest_proper (one_input_convex a rest_one)).cover (lows a) (lows_inside a rest_proper)).1

    module _ {i : Instruction} (fetched : Fetches j (left f g.box) i) where
      rest_instruction : i ≡ known_fork.instruction
      rest_instruction =
          let d = fetched_part j (before f g.box) known_fork.good (left f g.box).box rest_within rest_proper
          known_fork.followed in
          cc

      pub rest_cuttable : ¬ OneClass j (left f g.box) i → Cuttable (class_at j f.steps i) (left f g.box).box f.input
      rest_cuttable d = let z = rest_instruction in rw z (cuttable (left f g.box).box rest_proper rest_one (rw z at d))

      -- The rest is of one class: it is taken up whole, and nothing of the fork is left.
      pub takes_whole : let a = left f g.box in OneClass j a i → Running j n ps (later a (written j a i + 1) a.box) (spend f ∷ fs)
      takes_whole e =
          let z = rest_instruction in
          let a = left f g.box in
          let d = rw z at e in
          let o = rest_one in
          let one = pieces_one (class_at j f.steps known_fork.instruction) a.box rest_proper
          (constant_corner a.box rest_proper o d) in
          rw z (taken a.box f.rest true (λ c m. m) rest_proper (same_corner a.box rest_proper o d) (rw set-set)
          known_fork.from_low known_fork.to_high (rw one))

      -- The rest is of several classes: the part up to its edge is taken up, and the rest begins above it.
      pub takes_first : {m : ℕ} → let a = left f g.box in EdgeAt j a i f.input m
          → Running j n ps (later a (written j a i + 1) (below a.box f.input m)) (shorten f m ∷ fs)
      takes_first {m} e =
          let z = rest_instruction in
          let k = known_fork in
          let x = f.input in
          let a = (left f g.box).box in
          let c = before f g.box in
          let d = rw z at e in
          let s = d.splits in
          let o = rest_one in
          let lo : at (lows a) x ≡ f.rest = low_cut g.box x k.inside (f.rest ⋯ f.high) in
          let hi : at (highs a) x ≡ f.high = high_cut g.box x k.inside (f.rest ⋯ f.high) in
          let over : (left (shorten f m) (below a x m)).box ≡ above a x m = rw (set-set a x _ ((m + 1) ⋯ f.high), add-one, hi) in
          let w : Within (above a x m) c.box = λ y n. rest_within y (above_within s y n) in
          let u = written_part j c k.good a rest_within rest_proper k.instruction in
          rw z (taken (below a x m) (m + 1) false (below_within s) (proper_below s rest_proper) (same_below a rest_proper o d)
          (rw (set-set a x, set-set g.box x))
          (omega (arith, k.from_low)) (omega arith)
          (rw (
            pieces_cut rest_proper (one_input_convex a o) d,
            over,
            rest_part j c k.good (above a x m) w (proper_above s rest_proper) k.followed,
            u,
          )
          (ap (λ (n : ℕ). later c (written j c k.instruction + 1) (below a x m) ∷ map (later c (n + 1)) (pieces (class_at j f.steps k.instruction) (above a x m))) u)))
