-- The exploration of a call from its first group to its page.
-- Assumes nothing.
use mathlib.Core.Path.{◌≡◌, refl, sym, ap, ◌∙◌, subst}
use mathlib.Core.Bool.{Bool, true, false}
use mathlib.Core.List.{List, [], ◌++◌}
use Prim.Native.Nat.{ℕ, ◌+◌, ◌-◌, ◌/◌}
use native.Mathlib.Nat.{div-mul-le_self}
use native.Mathlib.Omega.{arith}
use lib.Dec.{ltb}
use lib.ListN.{length, drop, length-drop, take-append-drop, drop_of_length-le}
use Rattle.listing.specs.Group.{Job}
use Rattle.listing.specs.Listing.{Path, listing}
use Rattle.blocks.specs.Record.{record_bytes, records}
use Rattle.calls.specs.Call.{Call, call_of, page}
use Rattle.forks.specs.Working.Turn.{running, resting, Reached, begins}
use Rattle.forks.specs.Working.Table.{group_in, forks_in}
use Rattle.forks.proofs.Positions.{reached_represents}
use Rattle.forks.proofs.Page.{page_ended, page_full}
use Rattle.decide.specs.declared.Limits.{Limits}
use Rattle.lockstep.specs.Working.LockStep.{both, lock_steps, starting}
use Rattle.lockstep.specs.declared.Corners.{Corners}
use Rattle.pages.specs.Working.Page.{filled}
use Rattle.pages.specs.declared.Window.{Window}
use Rattle.lockstep.specs.declared.Machines.{Machines}
use Rattle.explorer.specs.Working.Held.{Lists, lists, group_of, listed, going, more, Held}
use Rattle.explorer.specs.Working.Explored.{Explored}
use Rattle.explorer.specs.Working.Finished.{Begins, Finished, begun}
use Rattle.explorer.specs.declared.Phase.TheVariants.{Stopped}
use Rattle.explorer.specs.declared.Standing.{Standing}
use Rattle.boxes.proofs.Lists.{not_both}
use Rattle.explorer.proofs.Forking.{replayed_to}
use Rattle.explorer.proofs.Phases.{stopped_phase}
use Rattle.explorer.proofs.Resuming.{forks_top}
use Rattle.corners.specs.Working.Good.{Good}

module _ {j : Job} {m : Limits} {w : Window} {ls hs table report : List ℕ} (b : Begins j m w ls hs table report) where
  first_good : Good j (group_in ls hs 0 0)
  first_good = record { sound = rw b.box b.fits.sound; smooth = λ n l. absurd (omega arith) }

  pub begins_explored : (x : Machines) (a : Corners) → both a x ≡ lock_steps ls hs j.code 0 (starting j.memory)
      → Explored j m w (lists ls hs table x) report (begun a)
  unfolding forks_in records
  begins_explored x a z = record {
    held = record {
      fits = b.fits;
      reached = subst (λ (x : _). Reached j (running [] (record { box = x; steps = 0; used = 0 }) [])) (sym b.box) begins;
      corners = λ _. rw z (replayed_to j ls hs 0 0 b.fits.paired first_good);
      count = refl;
    };
    paged = record {
      space =
          let e : w.end - w.first ≡ length report / record_bytes m.inputs = omega (arith, b.end) in
          rw e (omega (arith, div-mul-le_self (length report) (record_bytes m.inputs)));
      few = b.few;
      some = omega (arith, b.some, b.end);
      end_fits = b.end_fits;
      steps_fit = b.steps_fit;
    };
    written =
        let e : filled m.inputs w 0 ≡ 0 = omega arith in
        rw (e, drop_of_length-le {A = Path} [] {i = w.first} (omega arith));
    within = omega arith;
    before = λ _. omega (arith, b.some, b.end);
    stopped = λ b q. not_both (ap going q) refl;
  }

-- it has stopped: the paths ended are those of the page and the ones before it
module _ {j : Job} {m : Limits} {w : Window} {x : Lists} {report : List ℕ} {s : Standing} (e : Explored j m w x report s)
    (stop : going s.phase ≡ false)
    (code intervals : List ℕ) (lent : List ℕ) (size : length report ≡ length lent) (end : w.end ≡ w.first + length lent / record_bytes m.inputs)
    (rest : drop (filled m.inputs w s.paths) report ≡ drop (filled m.inputs w s.paths) lent) where
  abbrev call : Call
  call = call_of code intervals m.steps lent w.first

  abbrev ps : List Path
  ps = listed j s

  -- the page, and whether a further path exists
  known : (page j call ≡ drop w.first ps) × (more s.phase ≡ ltb (w.first + length (drop w.first ps)) (length (listing j)))
  unfolding forks_in
  known = go (more s.phase) (stopped_phase s.phase stop)
    where
      h : Held j m ps x s
      h = e.held

      go : (b : Bool) → s.phase ≡ Stopped b → (page j call ≡ drop w.first ps) × (b ≡ ltb (w.first + length (drop w.first ps)) (length (listing j)))
      go false r =
          let reached : Reached j (resting ps (group_of x s) []) = rw (r, e.stopped false r) at h.reached in
          let (p, q) = page_ended j h.fits.sound call (reached_represents h.fits.sound reached).1 (omega (arith, h.count, e.within, end)) in
          (p, sym q)
      go true r =
          let (some, t, z) = e.stopped true r in
          let reached = rw (forks_top x.table s.forks some) at (rw r at h.reached) in
          let (p, q) = page_full j h.fits.sound call (reached_represents h.fits.sound reached).1 t (omega (arith, h.count, z, end)) in
          (p, sym q)

  pub explored_finished : Finished j call report s
  explored_finished =
      let (p, q) = known in
      let n : s.paths - w.first ≡ length (drop w.first ps) = rw length-drop (omega (arith, e.held.count)) in
      record {
        count = n ∙ sym (ap length p);
        further = q ∙ rw p;
        bytes =
            sym (take-append-drop (filled m.inputs w s.paths) report)
            ∙ (λ k. e.written k ++ rest k)
            ∙ rw (p, n);
      }
