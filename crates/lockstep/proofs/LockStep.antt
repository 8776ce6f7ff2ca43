-- Lock step, one instruction at a time; and that on a box whose steps are smooth it is the runs at the two corners, and their tags.
-- Assumes nothing.
use mathlib.Core.Path.{◌≡◌, refl, ap, subst, ◌∙◌}
use mathlib.Core.List.{List}
use Prim.Native.Nat.{ℕ, zero, suc, ◌+◌, ◌<◌}
use native.Mathlib.Numerals.{add-one}
use native.Mathlib.Omega.{arith}
use Rattle.boxes.specs.Boxes.{Choice, Box, lows, highs, Inside}
use Rattle.boxes.specs.Working.Cuts.{OneInput}
use Rattle.boxes.proofs.Choices.{lows_inside, highs_inside}
use Rattle.riscu.specs.Machine.{State, fetch, run, step}
use Rattle.riscu.specs.declared.Instruction.{Instruction}
use Rattle.std.specs.Prelude.{Some}
use Rattle.listing.specs.Group.{Job, after, class_of}
use Rattle.lockstep.specs.Working.LockStep.{Pair, both, advanced, advanced_by, lock_steps, starting, Hangs, AtCorners}
use Rattle.lockstep.specs.declared.Corners.{Corners}
use Rattle.lockstep.specs.declared.Machines.{Machines}
use Rattle.corners.specs.Working.Smooth.{Settled, Smooth}
use Rattle.corners.specs.Working.Good.{Sound}
use Rattle.corners.specs.Working.Tags.{tags_at}
use Rattle.corners.proofs.Uniform.{class_uniform, whole_after, after_suc, uniform_start, uniform_step}

-- one step more
pub one_more : (lo hi : Choice) (code : List ℕ) (p : Pair) (k : ℕ) (t u : Pair) → t ≡ lock_steps lo hi code k p
    → u ≡ advanced_by lo hi (fetch code t.low.pc) t → u ≡ lock_steps lo hi code (k + 1) p
unfolding lock_steps
one_more lo hi code p k t u e h = rw add-one (h ∙ ap (λ (q : Pair). advanced_by lo hi (fetch code q.low.pc) q) e)

module _ (j : Job) (b : Box) (sound : Sound j b) where
  low_in : Inside (lows b) b
  low_in = lows_inside b sound.proper

  high_in : Inside (highs b) b
  high_in = highs_inside b sound.proper

  smooth_step : {n : ℕ} {p : Pair} (s : Smooth j b n) → AtCorners j b n p
      → AtCorners j b (suc n) (advanced (lows b) (highs b) s.instruction p)
  smooth_step {n} s a =
      let i = s.instruction in
      let f = s.followed.fetched in
      record {
        low = ap (step (lows b) i) a.low ∙ after_suc j b sound n (lows b) (f (lows b) low_in);
        high = ap (step (highs b) i) a.high ∙ after_suc j b sound n (highs b) (f (highs b) high_in);
        tags = rw (a.low, a.high) (uniform_step j b sound n s a.tags);
      }

  smooth_fetch : {n : ℕ} {p : Pair} (s : Smooth j b n) → AtCorners j b n p → fetch j.code p.low.pc ≡ Some s.instruction
  smooth_fetch s a = ap (λ (t : State). fetch j.code t.pc) a.low ∙ s.followed.fetched (lows b) low_in

  -- one straight step, where the low corner is at instruction i
  pub advanced_at : {n : ℕ} {i : Instruction} {p : Pair} → Smooth j b n → fetch j.code p.low.pc ≡ Some i → AtCorners j b n p
      → AtCorners j b (n + 1) (advanced (lows b) (highs b) i p)
  advanced_at {n} {i} {p} s f a =
      let e : s.instruction ≡ i = cc (f, smooth_fetch s a) in
      rw add-one (subst (λ (i : Instruction). AtCorners j b (suc n) (advanced (lows b) (highs b) i p)) e (smooth_step s a))

  starts : AtCorners j b 0 (starting j.memory)
  unfolding starting after run tags_at
  starts = record { low = refl; high = refl; tags = uniform_start j b sound }

  by_fetch : {n : ℕ} {p : Pair} → Smooth j b n → AtCorners j b n p
      → AtCorners j b (suc n) (advanced_by (lows b) (highs b) (fetch j.code p.low.pc) p)
  unfolding advanced_by
  by_fetch s a = rw (smooth_fetch s a) (smooth_step s a)

  -- what a replay leaves, where the steps before n are smooth on the box
  pub replayed : (n : ℕ) → ((m : ℕ) → m < n → Smooth j b m)
      → AtCorners j b n (lock_steps (lows b) (highs b) j.code n (starting j.memory))
  unfolding lock_steps
  replayed zero s = starts
  replayed (suc n) s = by_fetch (s n (omega arith)) (replayed n (λ m h. s m (omega arith)))

  -- the class at an instruction hangs on the input that its tag names
  pub hangs_on : {n x : ℕ} (i : Instruction) (at : Corners) (m : Machines) → AtCorners j b n (both at m) → Settled b (after j n) i
      → Hangs i m.low m.high m.tags x → OneInput b x (λ c. class_of i (after j n c))
  hangs_on {n} i at m a h t =
      rw (t at.low at.high m.lowmem m.highmem m.tagmem, a.low, a.high)
      (class_uniform sound.proper (whole_after j b sound n) a.tags i h)
