-- What each kind of turn keeps of an exploration under way.
-- Assumes nothing.
use mathlib.Core.Path.{◌≡◌, refl, sym, ap, ◌∙◌, subst}
use mathlib.Core.Bool.{Bool, true}
use mathlib.Core.List.{List, [], ◌∷◌, ◌++◌, map, append-nil}
use Prim.Native.Nat.{ℕ, ◌+◌, ◌-◌, ◌*◌, ◌≤◌, ◌<◌, min, max}
use native.Mathlib.Omega.{arith}
use native.Mathlib.Decide.{dec_lt}
use lib.ListN.{length, take, drop, length-drop, drop_of_length-le}
use lib.Seq.{drop-append-le}
use Rattle.boxes.specs.Boxes.{Interval, ◌⋯◌, from}
use Rattle.boxes.specs.Working.Cuts.{box_in, cut}
use Rattle.riscu.specs.Machine.{reg}
use Rattle.riscu.specs.declared.Instruction.{Instruction}
use Rattle.listing.specs.Group.{Job}
use Rattle.listing.specs.Listing.{Path, path_of, listing}
use Rattle.listing.specs.declared.End.{End}
use Rattle.blocks.specs.Record.{most_inputs, record_bytes, record_of, records}
use Rattle.blocks.proofs.Reading.{records_append}
use Rattle.forks.specs.Working.Stack.{Fork}
use Rattle.decide.specs.declared.Limits.{Limits}
use Rattle.decide.specs.declared.Decision.TheVariants.{Ended, Steps}
use Rattle.lockstep.specs.Working.LockStep.{both, advanced}
use Rattle.pages.specs.Working.Page.{ended_path, page_with, filled}
use Rattle.pages.specs.declared.Window.{Window}
use Rattle.pages.proofs.Page.{registers_in, ended_length, page_early, page_more, page_past, page_length}
use Rattle.lockstep.specs.declared.Machines.{Machines}
use Rattle.explorer.specs.Working.Held.{Lists, lists, moved, latest, listed, corners_in, decision_on, going, at_group, more, Held, stepped, dropped, ended, work, GoesOn}
use Rattle.explorer.specs.Working.Explored.{StopsAt, Explored, Turned, Later, halted}
use Rattle.explorer.specs.declared.Phase.TheVariants.{AtGroup, Between}
use Rattle.explorer.specs.declared.Standing.{Standing}
use Rattle.explorer.proofs.Straight.{held_straight, work_straight}
use Rattle.boxes.proofs.Lists.{not_both}
use Rattle.explorer.proofs.Stands.{work_resting}
use Rattle.explorer.proofs.Resuming.{held_dropped, work_dropped}
use Rattle.explorer.proofs.Ending.{here, listed_ended, held_ended, work_ended}

-- a turn that ends no path
pub explored_moved : {j : Job} {m : Limits} {w : Window} {x : Lists} {report : List ℕ} {s : Standing} → Explored j m w x report s
    → (y : Lists) (r : Standing) → GoesOn j m x s y r → (r.phase ≡ AtGroup → s.paths < w.end) → Turned j m w x report s y report r
explored_moved {j} {m} {w} {report = report} {s = s} e y r g l =
    record {
      explored = record {
        held = subst (λ (n : ℕ). Held j m (take n (listing j)) y r) (sym g.paths) g.held;
        paged = e.paged;
        written = subst (λ (n : ℕ). take (record_bytes m.inputs * (n - w.first)) report ≡ records w.first (drop w.first (take n (listing j))))
            (sym g.paths) e.written;
        within = omega (arith, e.within, g.paths);
        before = λ z. omega (arith, l z, g.paths);
        stopped = λ b z. not_both (ap going z) g.goes;
      };
      less = g.less;
      paths = omega (arith, g.paths);
      kept = refl;
    }

-- a turn from a later group
pub turned_later : {j : Job} {m : Limits} {w : Window} {report lent : List ℕ} {x y z : Lists} {s r q : Standing} → Later j m w lent x s y r
    → Turned j m w y lent r z report q → Turned j m w x lent s z report q
turned_later k t =
    record { explored = t.explored; less = omega (arith, t.less, k.less); paths = omega (arith, t.paths, k.paths); kept = t.kept }

-- a turn that goes straight on
pub explored_straight : {j : Job} {m : Limits} {w : Window} {x : Lists} {report : List ℕ} {s : Standing} → Explored j m w x report s
    → s.phase ≡ AtGroup
    → (i : Instruction) → decision_on j.code m x s ≡ Steps i → (y : Machines) (r : Standing) → r ≡ stepped m s i r.at
    → both r.at y ≡ advanced x.lows x.highs i (corners_in x s.at) → Turned j m w x report s (moved x y) report r
explored_straight {j} {m} {w} {x} {report} {s} g e i d y r q k =
    let h = g.held in
    subst (λ (u : Standing). Turned j m w x report s (moved x y) report u) (sym q)
    (explored_moved g (moved x y) (stepped m s i r.at) (record {
      held = held_straight h e i d y r.at k;
      paths = refl;
      goes = refl;
      less = work_straight h e i d y r.at;
    })
    (λ _. g.before e))

-- it stops
pub explored_halted : {j : Job} {m : Limits} {w : Window} {x : Lists} {report : List ℕ} {s : Standing} → Explored j m w x report s
    → s.phase ≡ Between → (b : Bool) → StopsAt b w x (halted s b) → Turned j m w x report s x report (halted s b)
unfolding work
explored_halted {j} {m} {w} {x} {report} {s} e r b h =
    record {
      explored = record {
        held = record { fits = e.held.fits; reached = rw r at e.held.reached; corners = λ z. not_both refl (ap at_group z); count = e.held.count };
        paged = e.paged;
        written = e.written;
        within = e.within;
        before = λ z. not_both refl (ap at_group z);
        stopped = λ c z. subst (λ (c : Bool). StopsAt c w x (halted s b)) (ap more z) h;
      };
      less = omega (arith, work_resting j x s r);
      paths = omega arith;
      kept = refl;
    }

-- the latest fork goes, f being that fork as it was read from the table
pub explored_dropped : {j : Job} {m : Limits} {w : Window} {x : Lists} {report : List ℕ} {s : Standing} → Explored j m w x report s
    → s.phase ≡ Between → 0 < s.forks
    → (f : Fork) → f ≡ latest x s → f.spent ≡ true → (ls hs : List ℕ)
    → box_in ls hs ≡ cut (box_in x.lows x.highs) f.input (f.low ⋯ f.high)
    → length ls ≡ length x.lows → length hs ≡ length x.highs
    → Turned j m w x report s (lists ls hs x.table x.machines) report (dropped f s)
explored_dropped {j} {m} {w} {x} {report} {s} g r o f k t ls hs b p q =
    let h = g.held in
    let b' = rw k at b in
    let t' = rw k at t in
    rw k (explored_moved g (lists ls hs x.table x.machines) (dropped (latest x s) s) (record {
      held = held_dropped h r o t' ls hs b' p q;
      paths = refl;
      goes = refl;
      less = work_dropped h r o t' ls hs b' p q;
    })
    (λ z. not_both refl (ap at_group z)))

-- the group at hand ends
module _ {j : Job} {m : Limits} {w : Window} {x : Lists} {report : List ℕ} {s : Standing} (e : Explored j m w x report s)
    (r : s.phase ≡ AtGroup) {end : End} (d : decision_on j.code m x s ≡ Ended end) where
  abbrev low : List ℕ
  low = x.machines.low

  abbrev high : List ℕ
  high = x.machines.high

  abbrev path : Path
  path = ended_path x.lows x.highs low high s.at.low s.steps end

  path_is : path ≡ here e.held r d
  unfolding path_of
  path_is =
      let c = e.held.corners r in
      ap (λ (v : List Interval). record {
        end = end;
        pc = s.at.low.pc;
        steps = s.steps;
        box = box_in x.lows x.highs;
        reads = s.at.low.reads;
        registers = v;
      })
      (registers_in low high)
      ∙ (λ k. record {
        end = end;
        pc = (c.low k).pc;
        steps = s.steps;
        box = box_in x.lows x.highs;
        reads = (c.low k).reads;
        registers = map (λ n. min (reg n (c.low k)) (reg n (c.high k)) ⋯ max (reg n (c.low k)) (reg n (c.high k))) (from 0 32);
      })

  -- what writing the path asks
  pub path_fits : ((length x.lows ≤ most_inputs) × (length x.lows ≡ length x.highs))
      × (filled (length x.lows) w s.paths + record_bytes (length x.lows) ≤ length report)
  path_fits = ((omega (arith, e.held.fits.inputs, e.paged.few), e.held.fits.paired), omega (arith, e.paged.space, e.before r, e.paged.some))

  path_length : length (record_of s.paths path) ≡ record_bytes m.inputs
  path_length = let f = path_fits.0 in ended_length s.paths x.lows x.highs low high s.at.low s.steps end f.0 f.1

  abbrev next : List ℕ
  next = page_with w s.paths path report

  -- the listing's paths from the first wanted on
  more_records : w.first ≤ s.paths
      → records w.first (drop w.first (listed j (ended s))) ≡ records w.first (drop w.first (listed j s))
      ++ record_of s.paths path
  unfolding records
  more_records l =
      let n = e.held.count in
      let ps = listed j s in
      let k : w.first + length (drop w.first ps) ≡ s.paths = rw length-drop (omega arith) in
      rw (
        listed_ended e.held r d,
        drop-append-le w.first ps (here e.held r d ∷ []) (omega arith),
        records_append,
        k,
        append-nil,
        ← path_is,
      )

  page : take (filled m.inputs w (s.paths + 1)) next ≡ records w.first (drop w.first (listed j (ended s)))
  unfolding records
  page = elim (dec_lt s.paths w.first) [
    | yes l ↦ (
        let b = (page_early m.inputs w s.paths path report path_length path_fits.1 l).1 in
        let c : length (listed j (ended s)) ≤ w.first = omega (arith, (held_ended e.held r d).count) in
        rw (b, drop_of_length-le (listed j (ended s)) {i = w.first} c))
    | no l ↦ (
        let k : w.first ≤ s.paths = omega arith in
        page_more m.inputs w s.paths path report path_length path_fits.1 k
        ∙ ap (λ (v : List ℕ). v ++ record_of s.paths path) e.written
        ∙ sym (more_records k))
  ]

  pub explored_ended : Turned j m w x report s x next (ended s)
  explored_ended = record {
    explored = record {
      held = held_ended e.held r d;
      paged = record {
        space = omega (arith, e.paged.space, page_length m.inputs w s.paths path report path_length path_fits.1);
        few = e.paged.few;
        some = e.paged.some;
        end_fits = e.paged.end_fits;
        steps_fit = e.paged.steps_fit;
      };
      written = page;
      within = omega (arith, e.before r);
      before = λ z. not_both refl (ap at_group z);
      stopped = λ b z. not_both (ap going z) refl;
    };
    less = work_ended e.held r d;
    paths = omega arith;
    kept = page_past m.inputs w s.paths path report path_length path_fits.1;
  }
