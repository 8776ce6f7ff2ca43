-- A search by probes finds the edge of a class. Assumes nothing.
use mathlib.Core.Path.{◌≡◌, sym}
use mathlib.Core.List.{List}
use Prim.Native.Nat.{ℕ}
use lib.ListN.{length, get_or}
use Rattle.boxes.specs.Boxes.{at, lows, highs}
use Rattle.boxes.specs.Working.Cuts.{Proper, OneInput, below, box_in}
use Rattle.riscu.specs.declared.Instruction.{Instruction}
use Rattle.listing.specs.Group.{Job, Group, after, class_of}
use Rattle.forks.specs.Working.Turn.{class_at, EdgeAt, Cuttable}
use Rattle.forks.specs.Working.Table.{group_in}
use Rattle.forks.proofs.Turns.{edge_along}
use Rattle.boxes.proofs.TwoLists.{lows_in, highs_in, below_in}
use Rattle.cuts.specs.Working.Cutting.{probed, Starts, Turning}
use Rattle.cuts.specs.Working.Forking.{Parted}
use Rattle.corners.specs.Working.Good.{low_state}

module _ (j : Job) (g : Group) (i : Instruction) (x : ℕ) where
  -- the class along input x by probes, and that of the low corner
  abbrev along : ℕ → ℕ
  along = probed j.code j.memory g.steps i (highs g.box) x

  abbrev bottom : ℕ
  bottom = class_of i (low_state j g)

  cut_starts : Cuttable (class_at j g.steps i) g.box x → Starts along bottom (at (lows g.box) x) (at (highs g.box) x)
  unfolding probed after
  cut_starts c = record { order = c.wide; bottom = c.bottom; top = c.top }

  cut_edge : {m : ℕ} → Proper g.box → OneInput g.box x (class_at j g.steps i)
      → Turning along bottom (at (lows g.box) x) (at (highs g.box) x) m → EdgeAt j g i x m
  unfolding probed after
  cut_edge p o t = edge_along g.box p o t.from_lo t.below_hi t.here t.next

-- with the box in two lists
module _ (j : Job) (ls hs : List ℕ) (e : length ls ≡ length hs) (s u : ℕ) (i : Instruction) (x : ℕ) where
  abbrev here : Group
  here = group_in ls hs s u

  pub starts_in : Cuttable (class_at j s i) (box_in ls hs) x
      → Starts (probed j.code j.memory s i hs x) (class_of i (after j s ls)) (get_or ls x 0) (get_or hs x 0)
  starts_in c = rw (lows_in ls hs e, highs_in ls hs e) at (cut_starts j here i x c)

  -- the lists after the cut: the edge, and the part below it
  pub parted_edge : {m : ℕ} {hs' : List ℕ} → Proper (box_in ls hs) → OneInput (box_in ls hs) x (class_at j s i)
      → Parted (probed j.code j.memory s i hs x) (class_of i (after j s ls)) x ls hs hs' m → EdgeAt j here i x m
  parted_edge p o t = cut_edge j here i x p o (rw (lows_in ls hs e, highs_in ls hs e) t.edge)

pub parted_below : {f : ℕ → ℕ} {k x m : ℕ} {ls hs hs' : List ℕ} → length ls ≡ length hs → Parted f k x ls hs hs' m
    → box_in ls hs' ≡ below (box_in ls hs) x m
parted_below {x = x} {m = m} {ls = ls} {hs = hs} e p = rw p.highs (sym (below_in ls hs x m e))
