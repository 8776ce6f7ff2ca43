-- A straight step from what its tests found. Assumes nothing.
use mathlib.Core.Path.{◌≡◌, ap, ◌∙◌}
use mathlib.Core.Logic.{◌≢◌}
use mathlib.Core.Bool.{Bool, true, false}
use mathlib.Core.List.{List}
use Rattle.std.specs.Prelude.{Option, Some, None}
use Prim.Native.Nat.{ℕ, ◌+◌, ◌-◌, ◌/◌, ◌≤◌}
use native.Mathlib.Omega.{arith}
use lib.Dec.{ltb}
use lib.ListN.{get_or}
use borrow.Author.Tests.{eq-eqb, ne_eqb, le-ltb}
use Rattle.riscu.specs.Machine.{bad_pc, fetch, step}
use Rattle.riscu.specs.Decode.{decode_of}
use Rattle.riscu.specs.declared.At.{At}
use Rattle.riscu.specs.declared.Instruction.{Instruction}
use Rattle.listing.specs.Group.{class_of}
use Rattle.listing.specs.Ending.{points, writes}
use Rattle.decide.specs.Working.Corner.{corner_view, machine, same_class, verdict, onward, unless_ends, row_decision, decision}
use Rattle.decide.specs.declared.Limits.{Limits}
use Rattle.decide.specs.declared.Used.{Used}
use Rattle.decide.specs.declared.Decision.TheVariants.{Steps}
use Rattle.std.specs.Prelude.{Ok}
use Rattle.lockstep.specs.declared.Corners.{Corners}
use Rattle.straight.specs.Working.Stepped.{Goes, Moves, Stepped, FormStepped, DecidedStep}
use Rattle.lockstep.specs.declared.Machines.{Machines}
use Rattle.lockstep.specs.Working.LockStep.{pair, both, tags_of, with_tags}
use Rattle.corners.specs.Working.Tags.{Tags, tag_step}
use Rattle.boxes.specs.Boxes.{Choice}
use Rattle.riscu.specs.Working.Parts.{state}
use Rattle.straight.specs.declared.Taken.{Taken}

-- no point applies, the class is the same at both corners, and the entries suffice
pub goes : {entries : ℕ} (i : Instruction) {l h : List ℕ} {w : ℕ} → verdict (points (corner_view l h) i) ≡ Ok tt
    → class_of i (machine l) ≡ class_of i (machine h) → ((left : Bool) → w ≡ writes left i) → w ≤ entries → Goes entries i l h w
unfolding row_decision unless_ends onward
goes {entries} i {l} {h} v k e n =
    let same : same_class i l h ≡ true = eq-eqb _ _ k in
    record { steps = λ left. rw (v, same, le-ltb entries (writes left i + 0) (omega (arith, e left))); takes = e }

-- both machines take i once the tags are marked, which gives u
pub moves : (i : Instruction) (a : Corners) (x : Machines) {b : Corners} {u y : Machines} (t : Tags) → u ≡ with_tags x t
    → ((lows : Choice) → state b.low y.low y.lowmem ≡ step lows i (state a.low u.low u.lowmem))
    → ((highs : Choice) → state b.high y.high y.highmem ≡ step highs i (state a.high u.high u.highmem))
    → tags_of y ≡ tags_of u
    → ((lows : Choice) → t ≡ tag_step lows i (state a.low x.low x.lowmem) (state a.high x.high x.highmem) (tags_of x))
    → Moves i (both a x) (both b y)
moves i a x t e l h k f lows highs =
    let low = l lows ∙ ap (λ (m : Machines). step lows i (state a.low m.low m.lowmem)) e in
    let high = h highs ∙ ap (λ (m : Machines). step highs i (state a.high m.high m.highmem)) e in
    let tags = k ∙ ap (λ (m : Machines). tags_of m) e ∙ f lows in
    λ j. pair (low j) (high j) (tags j)

-- a row's straight step is that of a word of the row
pub of_row : {d : Option Instruction} {i : Instruction} (entries : ℕ) (a : Corners) (x y : Machines) → d ≡ Some i → (r : Option Taken)
    → Stepped entries i a x y r → FormStepped entries d a x y r
of_row {i = i} entries a x y e (Some t) s = record { instruction = i; is = e; goes = s.0; moves = s.1 }
of_row entries a x y e None s = s

-- the decision on a word that the code has at pc
pub decided : (code : List ℕ) (m : Limits) (u : Used) (a : At) (l h : List ℕ) {i : Instruction}
    → u.steps ≢ m.steps → bad_pc code a.pc ≡ false → decode_of (get_or code (a.pc / 4) 0) ≡ Some i
    → ((left : Bool) → row_decision (m.entries - u.entries) left l h (Some i) ≡ Steps i) → decision code m u a l h ≡ Steps i
unfolding decision fetch
decided code m u a l h s p e k =
    let left = ltb a.reads m.inputs in
    simp (ne_eqb u.steps m.steps s, p) (ap (row_decision (m.entries - u.entries) left l h) e ∙ k left)

-- the word is the code's
fetches : (code : List ℕ) (pc : ℕ) {d : Option Instruction} → bad_pc code pc ≡ false → decode_of (get_or code (pc / 4) 0) ≡ d → fetch code pc ≡ d
unfolding fetch
fetches code pc p e = rw p e

-- its straight step is the code's
pub from_word : (code : List ℕ) (m : Limits) (u : Used) (a : Corners) (x y : Machines) → u.steps ≢ m.steps → bad_pc code a.low.pc ≡ false
    → (r : Option Taken) → FormStepped (m.entries - u.entries) (decode_of (get_or code (a.low.pc / 4) 0)) a x y r
    → DecidedStep code m u a x y r
from_word code m u a x y s p (Some t) k =
    record {
      instruction = k.instruction;
      below_limit = s;
      row = fetches code a.low.pc p k.is;
      steps = decided code m u a.low x.low x.high s p k.is k.goes.steps;
      takes = k.goes.takes (ltb a.low.reads m.inputs);
      moves = k.moves;
    }
from_word code m u a x y s p None k = k
