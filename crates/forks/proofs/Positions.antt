-- The explorer as a whole: whatever it comes to from the job's box is a state of the plain listing; its forks fit into the table; its work
-- falls; and what it knows of the whole listing between two groups.
-- Assumes nothing.
use mathlib.Core.Path.{◌≡◌, refl, sym, ap, ◌∙◌}
use mathlib.Core.Bool.{false}
use mathlib.Core.List.Memᴰ.{head as here}
use mathlib.Core.List.{List, [], ◌∷◌, ◌++◌}
use mathlib.Core.Option.{Option, none, some}
use Prim.Native.Nat.{ℕ, zero, suc, ◌+◌, ◌≤◌, ◌<◌}
use native.Mathlib.Omega.{arith}
use native.Mathlib.Decide.{ℕ_discrete}
use lib.ListN.{length, length-append, length-map}
use Rattle.boxes.specs.Boxes.{◌∈◌}
use Rattle.boxes.proofs.Lists.{by_test}
use Rattle.boxes.proofs.OneInput.{one_input_convex}
use Rattle.boxes.proofs.Pieces.{edge_exists}
use Rattle.listing.specs.Group.{Job, Group, view_of, class_of}
use Rattle.listing.specs.Ending.{end_by}
use Rattle.listing.specs.declared.End.{End}
use Rattle.listing.specs.Listing.{Path, Progress, progress, moves, listing, whole}
use Rattle.corners.proofs.Corner.{end_agrees}
use Rattle.corners.proofs.Moves.{continues}
use Rattle.corners.proofs.Enough.{weight_falls, steps_in_limit}
use Rattle.corners.proofs.CornerListing.{corner_moves, listing_is}
use Rattle.paths.proofs.Pages.{listing_further}
use Rattle.forks.specs.Working.Stack.{Fork, before, left, waiting_of, Stacked, Running, Resting}
use Rattle.forks.specs.Working.Turn.{Position, running, resting, Turn, straight, forking, ending, dropping, whole_rest, first_part, Reached}
use Rattle.forks.specs.Working.Turn.{begins, turns}
use Rattle.forks.specs.Working.Turn.{state_of, moves_after, Represents}
use Rattle.forks.proofs.Turns.{starts, ends, goes_straight, goes_forking, drops, takes_whole, takes_first, now_one, known_fork}
use Rattle.forks.proofs.Turns.{rest_within, rest_proper, rest_one, rest_waits, rest_some}
use Rattle.forks.proofs.Parts.{fetched_part}
use Rattle.corners.specs.Working.Good.{Sound, low_state, high_state, corners_of, weight}

-- the tie: a step of the explorer leads from a state of the listing to a state of the listing
pub turn_represents : {j : Job} {s t : Position} (n : ℕ) → Turn j s t → Represents j n s → Represents j (moves_after s n) t
turn_represents n (straight e f o) r = goes_straight r e f o
turn_represents n (forking e f o m) r = goes_forking r e f o m
turn_represents n (ending e) r = ends r e
turn_represents n (dropping e) r = drops r e
turn_represents n (whole_rest e f o) r = takes_whole r e f o
turn_represents n (first_part e f m) r = takes_first r e f m

pub reached_represents : {j : Job} {s : Position} → Sound j j.box → Reached j s → (n : ℕ) × Represents j n s
reached_represents {j} d begins = (0, starts j d)
reached_represents d (turns {s} r t) = let (n, h) = reached_represents d r in (moves_after s n, turn_represents n t h)

pub represents_moves : (j : Job) (s : Position) (n : ℕ) → Represents j n s → moves view_of j n ≡ state_of j s
unfolding state_of
represents_moves j (running ps g fs) n r = r.moved
represents_moves j (resting ps g fs) n r = r.moved

pub reached_moves : {j : Job} {s : Position} → Sound j j.box → Reached j s → (n : ℕ) × (moves view_of j n ≡ state_of j s)
reached_moves {j} {s} d r = let (n, h) = reached_represents d r in (n, represents_moves j s n h)

-- the forks are at most the entries in use, so they fit into the table
pub depth : (j : Job) (fs : List Fork) (g : Group) → Stacked j fs g → length fs ≤ g.used
depth j [] g s = omega arith
depth j (f ∷ fs) g s = omega (arith, depth j fs (before f g.box) s.1, s.0.counted)

module _ (j : Job) (sound : Sound j j.box) where
  module _ {n : ℕ} {ps : List Path} {g : Group} {fs : List Fork} (r : Running j n ps g fs) where
    waits : g ∈ (moves view_of j n).waiting
    waits = rw r.moved (here refl)

    pub within_limit : g.steps ≤ j.limit
    within_limit = steps_in_limit j sound n g waits

    -- the work left falls with each step at a group
    pub work_falls : (s : Position) → Represents j (suc n) s → weight j (state_of j s).waiting < weight j (g ∷ waiting_of j fs g.box)
    work_falls s t = rw (represents_moves j s (suc n) t, r.moved) at (weight_falls j sound n waits)

  -- the paths so far are the first of the whole listing, and a group that waits gives one more at least
  pub paths_first : (n : ℕ) {ps : List Path} {gs : List Group} → moves view_of j n ≡ progress ps gs
      → ((rest : List Path) × (listing j ≡ ps ++ rest)) × (length ps + length gs ≤ length (listing j))
  paths_first n e = let f = rw e at (listing_further j sound n) in ((f.rest, f.ended), omega (arith, f.count))

  -- with a fork of which something is left, a further path exists
  pub more : {n : ℕ} {ps : List Path} {g : Group} {f : Fork} {fs : List Fork} → Resting j n ps g (f ∷ fs) → f.spent ≡ false
      → length ps < length (listing j)
  more {n} r t = let h = (paths_first n (rest_waits r t)).1 in let p = rest_some r t in omega (arith, simp (length-append, length-map) at h)

  -- with no fork the listing is whole
  pub finish : {n : ℕ} {ps : List Path} {g : Group} → Resting j n ps g [] → listing j ≡ ps
  unfolding waiting_of
  finish {n} r =
      let e = sym (corner_moves j sound n) ∙ r.moved in
      listing_is j sound n (ap (λ (p : Progress). p.waiting) e) ∙ ap (λ (p : Progress). p.ended) e

  pub reached_listing : {ps : List Path} {g : Group} → Reached j (resting ps g []) → listing j ≡ ps
  reached_listing r = finish (reached_represents sound r).1

-- the explorer never stands still before the end: the group at hand goes straight, forks or ends, and the top fork goes or is taken up

module _ {j : Job} {n : ℕ} {ps : List Path} {g : Group} where
  pub turns_running : {fs : List Fork} → Running j n ps g fs → (t : Position) × Turn j (running ps g fs) t
  turns_running {fs} r = go (end_by j g (corners_of j g)) refl
    where
      go : (o : Option End) → end_by j g (corners_of j g) ≡ o → (t : Position) × Turn j (running ps g fs) t
      go (some e) d = (_, ending d)
      go none d =
          let k = continues j g (end_agrees j g r.good ∙ d) in
          let i = k.instruction in
          elim (ℕ_discrete (class_of i (low_state j g)) (class_of i (high_state j g))) [
            | yes e ↦ (_, straight d k.fetched e)
            | no e ↦ (
                let o = now_one r d k.fetched in
                (_, forking d k.fetched o (edge_exists g.box r.good.sound.proper (one_input_convex g.box o) e).1))
          ]

  -- something of the top fork is left
  pub takes_up : {f : Fork} {fs : List Fork} → Resting j n ps g (f ∷ fs) → f.spent ≡ false
      → (h : Group) × (ks : List Fork) × Turn j (resting ps g (f ∷ fs)) (running ps h ks)
  takes_up {f} {fs} r t =
      let a = left f g.box in
      let i = (known_fork r).instruction in
      let d = fetched_part j (before f g.box) (known_fork r).good a.box (rest_within r) (rest_proper r) (known_fork r).followed in
      elim (ℕ_discrete (class_of i (low_state j a)) (class_of i (high_state j a))) [
        | yes e ↦ (_, _, whole_rest t d e)
        | no e ↦ (_, _, first_part t d (edge_exists a.box (rest_proper r) (one_input_convex a.box (rest_one r t)) e).1)
      ]

-- so from any sound job it comes to the whole listing

module _ (j : Job) (sound : Sound j j.box) where
  Ends : Type 0
  Ends = (ps : List Path) × (g : Group) × Reached j (resting ps g [])

  -- what is shown of the groups at hand whose work is at most w
  FromGroup : ℕ → Type 0
  FromGroup w = (n : ℕ) (ps : List Path) (g : Group) (fs : List Fork) → weight j (g ∷ waiting_of j fs g.box) ≤ w
      → Running j n ps g fs → Reached j (running ps g fs) → Ends

  from_stack : (w : ℕ) → FromGroup w → (n : ℕ) (ps : List Path) (g : Group) (fs : List Fork) → weight j (waiting_of j fs g.box) ≤ w
      → Resting j n ps g fs → Reached j (resting ps g fs) → Ends
  unfolding Ends FromGroup waiting_of
  from_stack w k n ps g [] l r h = (ps, g, h)
  from_stack w k n ps g (f ∷ fs) l r h =
      by_test f.spent
      (λ t. from_stack w k n ps (before f g.box) fs (rw t at l) (drops r t) (turns h (dropping t)))
      (λ t.
      let (x, ks, d) = takes_up r t in
      let m = turn_represents n d r in
      k n ps x ks (rw (ap (λ (p : Progress). p.waiting) (sym r.moved ∙ m.moved)) at l) m (turns h d))

  from_position : (w : ℕ) → FromGroup w → (n : ℕ) (s : Position)
      → weight j (state_of j s).waiting ≤ w → Represents j n s → Reached j s → Ends
  unfolding FromGroup state_of
  from_position w k n (running ps g fs) l r h = k n ps g fs l r h
  from_position w k n (resting ps g fs) l r h = from_stack w k n ps g fs l r h

  from_group : (w : ℕ) → FromGroup w
  unfolding FromGroup
  from_group zero n ps g fs l r h =
      let (t, d) = turns_running r in
      absurd (omega (arith, work_falls j sound r t (turn_represents n d r)))
  from_group (suc w) n ps g fs l r h =
      let (t, d) = turns_running r in
      let m = turn_represents n d r in
      from_position w (from_group w) (suc n) t (omega (arith, work_falls j sound r t m)) m (turns h d)

  pub reaches_listing : (g : Group) × Reached j (resting (listing j) g [])
  unfolding Ends FromGroup waiting_of
  reaches_listing =
      let (ps, g, h) = from_group (weight j (whole j ∷ [])) 0 [] (whole j) [] (omega arith) (starts j sound) begins in
      (g, rw (reached_listing j sound h) h)
