-- A group on a box within its own.
-- Assumes nothing.
use mathlib.Core.Path.{◌≡◌, sym, ◌∙◌}
use mathlib.Core.List.{map}
use Prim.Native.Nat.{◌+◌}
use lib.ListN.{length}
use Rattle.boxes.specs.Boxes.{Box, pieces, lows, Within}
use Rattle.boxes.specs.Working.Cuts.{Proper}
use Rattle.boxes.proofs.Choices.{lows_inside, inside_length}
use Rattle.riscu.specs.Machine.{fetch}
use Rattle.riscu.specs.declared.Instruction.{Instruction}
use Rattle.std.specs.Prelude.{Some}
use Rattle.listing.specs.Group.{Job, Group, after, class_of}
use Rattle.listing.specs.Listing.{later}
use Rattle.corners.proofs.Smooth.{smooth_within}
use Rattle.corners.proofs.Corner.{good_uniform}
use Rattle.corners.proofs.Moves.{sound_part}
use Rattle.forks.specs.Working.Stack.{written, rest_by, rest_of}
use Rattle.corners.specs.Working.Smooth.{Followed}
use Rattle.corners.specs.Working.Good.{Good, low_state}

-- a group on another box
abbrev pub on_box : Group → Box → Group
on_box g q = record { box = q; steps = g.steps; used = g.used }

module _ (j : Job) (g : Group) (good : Good j g) (q : Box) (w : Within q g.box) (p : Proper q) where
  pub good_part : Good j (on_box g q)
  good_part = record { sound = sound_part j g good q w p; smooth = λ x l. smooth_within q g.box w j x (good.smooth x l) }

  -- it takes as many entries for its writes, and its rest is told by the group's instruction
  pub written_part : (i : Instruction) → written j (on_box g q) i ≡ written j g i
  written_part i =
      let m = w (lows q) (lows_inside q p) in
      let o = lows_inside g.box good.sound.proper in
      let r = (good_uniform j g good).reads (lows q) (lows g.box) m o in
      let l : length q ≡ length g.box = sym (inside_length q (lows q) (lows_inside q p)) ∙ inside_length g.box (lows q) m in
      cc

  pub fetched_part : {i : Instruction} → Followed j g.box g.steps i → fetch j.code (low_state j (on_box g q)).pc ≡ Some i
  fetched_part f = f.fetched (lows q) (w (lows q) (lows_inside q p))

  pub rest_part : {i : Instruction} → Followed j g.box g.steps i
      → rest_of j (on_box g q) ≡ map (later g (written j g i + 1)) (pieces (λ c. class_of i (after j g.steps c)) q)
  unfolding rest_by
  rest_part {i} f = rw (fetched_part f, written_part i)
