-- Every path of the listing is faithful to the plain machine.
-- Assumes nothing.
use mathlib.Core.Path.{◌≡◌, sym, subst}
use mathlib.Core.List.Memᴰ
use mathlib.Core.Option.{some}
use Prim.Native.Nat.{ℕ, ◌<◌}
use native.Mathlib.Nat.{zero-add}
use native.Mathlib.Omega.{arith}
use Rattle.boxes.specs.Boxes.{Choice, Interval, ◌⋯◌, lows, Inside, Within, ◌∈◌}
use Rattle.boxes.specs.Working.Cuts.{Proper}
use Rattle.boxes.proofs.Lists.{from_at}
use Rattle.boxes.proofs.Choices.{lows_inside, highs_inside}
use Rattle.boxes.proofs.OneInput.{low_le, le_high, low_reached, high_reached, at_corners}
use Rattle.riscu.specs.Machine.{reg}
use Rattle.listing.specs.Group.{Job, Group, after, view_of}
use Rattle.listing.specs.Ending.{end_of}
use Rattle.listing.specs.Follow.{follow}
use Rattle.listing.specs.Listing.{Path, path_of, listing}
use Rattle.listing.specs.declared.End.{End}
use Rattle.listing.specs.declared.End.TheVariants.{Exit}
use Rattle.corners.proofs.Uniform.{uniform_after}
use Rattle.corners.proofs.Corner.{good_uniform}
use Rattle.paths.proofs.Stop.{end_stops, smooth_goes_on}
use Rattle.paths.proofs.Paths.{listing_divides, listing_ended}
use Rattle.paths.proofs.Follow.{listing_led, follow_stays}
use Rattle.blocks.specs.Record.{register_of, exit_of}
use Rattle.calls.specs.Faithful.{Between, Reached, AtEnds, Runs, EndsAs, Faithful}
use Rattle.corners.specs.Working.Good.{Sound, Good}

exit_is : (p : Path) → p.end ≡ Exit → exit_of p ≡ register_of p 10
exit_is p e = rw e

module _ (j : Job) (g : Group) (good : Good j g) (x : End) (d : end_of j g ≡ some x) (w : Within g.box j.box)
    (led : (c : Choice) → Inside c g.box → EndsAs j (path_of g (view_of j g) x) (follow j c g.steps)) where
  proper : Proper g.box
  proper = good.sound.proper

  abbrev path : Path
  path = path_of g (view_of j g) x

  register_is : (r : ℕ) → r < 32 → register_of path r ≡ ((view_of j g).lowest (reg r) ⋯ (view_of j g).highest (reg r))
  unfolding path_of
  register_is r l = rw (from_at (λ r. (view_of j g).lowest (reg r) ⋯ (view_of j g).highest (reg r)) (0 ⋯ 0) 32 0 r l, zero-add)

  value : ℕ → Choice → ℕ
  value r c = reg r (after j g.steps c)

  between : (r : ℕ) → r < 32 → (c : Choice) → Inside c g.box → Between (reg r (after j g.steps c)) (register_of path r)
  unfolding value
  between r l c m = rw (register_is r l) (low_le (value r) g.box c m, le_high (value r) g.box c m)

  reached : (r : ℕ) → r < 32 → Reached j path (reg r) (register_of path r).low × Reached j path (reg r) (register_of path r).high
  unfolding path_of value
  reached r l = rw (register_is r l) (low_reached (value r) g.box proper, high_reached (value r) g.box proper)

  ends_at : (r : ℕ) → r < 32 → AtEnds j path (reg r) (register_of path r)
  unfolding path_of value
  ends_at r l = rw (register_is r l) (at_corners g.box proper ((good_uniform j g good).registers.one r))

  runs : (c : Choice) → Inside c g.box → Runs j path c
  unfolding path_of
  runs c m =
      let u = good_uniform j g good in
      let o = lows_inside g.box proper in
      record {
        completes = λ n l. smooth_goes_on n (good.smooth n l) c m;
        pc = u.pc c (lows g.box) m o;
        reads = u.reads c (lows g.box) m o;
        stops = λ k. end_stops j g c m x good d k;
        registers = λ r l. between r l c m;
        exit = λ e. subst (Between (reg 10 (after j g.steps c))) (sym (exit_is path e)) (between 10 (omega arith) c m);
      }

  group_faithful : Faithful j path
  unfolding path_of
  group_faithful =
      record {
        inputs = w;
        runs = runs;
        instructions = λ c d a b n l. (uniform_after j g.box good.sound n (λ m k. good.smooth m (omega arith))).pc c d a b;
        lowest = lows_inside g.box proper;
        highest = highs_inside g.box proper;
        registers = reached;
        exit = λ e.
            subst (λ (v : Interval). Reached j path (reg 10) v.low × Reached j path (reg 10) v.high) (sym (exit_is path e))
            (reached 10 (omega arith));
        witness = ends_at;
        exit_witness = λ e. subst (AtEnds j path (reg 10)) (sym (exit_is path e)) (ends_at 10 (omega arith));
        ends = led;
      }

pub listing_faithful : (j : Job) → Sound j j.box → (p : Path) → p ∈ listing j → Faithful j p
listing_faithful j sound p m =
    let e = listing_ended j sound p m in
    let w = (listing_divides j sound).within p.box (Memᴰ.map (λ (q : Path). q.box) m) in
    let l = listing_led j sound p m in
    let ends : (c : Choice) → Inside c p.box → EndsAs j p (follow j c p.steps) =
    λ c h. rw (follow_stays l c h p.steps (omega arith)) (record { box = l.box; steps = l.steps; end = l.ends }) in
    subst (λ (q : Path). Within q.box j.box → ((c : Choice) → Inside c q.box → EndsAs j q (follow j c q.steps)) → Faithful j q)
    e.path
    (unfold path_of in λ v f. group_faithful j e.group e.good e.end e.ends v f) w ends
