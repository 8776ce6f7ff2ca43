-- A group whose choices have gone the same way so far, what its two corners say of it, and the work that waiting groups leave.
use Rattle.std.specs.Prelude.{not, ℕ, ◌+◌, ◌-◌, ◌*◌, ◌≤◌, ◌<◌, min, max, eqb, length}
use mathlib.Core.List.{List, foldr}
use Rattle.boxes.specs.Boxes.{Box, lows, highs, size}
use Rattle.boxes.specs.Working.Cuts.{Proper, corner_pieces}
use Rattle.riscu.specs.Limits.{code_words, memory_words}
use Rattle.riscu.specs.Machine.{State}
use Rattle.riscu.specs.Working.Whole.{AllWords, Cells}
use Rattle.riscu.specs.declared.Instruction.{Instruction}
use Rattle.listing.specs.Group.{Job, Group, after, class_of, View}
use Rattle.corners.specs.Working.Smooth.{Smooth}
use Rattle.corners.specs.Working.Tags.{class_tag, tags_at}

-- what an accepted call lends, and a box of it
pub record Sound (j : Job) (b : Box) : Type 0 where
  pub code : length j.code ≤ code_words
  pub memory : Cells memory_words j.memory
  pub proper : Proper b
  pub inputs : AllWords (highs b)

-- a group whose earlier steps are all smooth on its box
pub record Good (j : Job) (g : Group) : Type 0 where
  pub sound : Sound j g.box
  pub smooth : (m : ℕ) → m < g.steps → Smooth j g.box m

-- the machines at the two corners, and the input that the class of an instruction hangs on
module _ (j : Job) (g : Group) where
  abbrev pub low_state : State
  low_state = after j g.steps (lows g.box)

  abbrev pub high_state : State
  high_state = after j g.steps (highs g.box)

  abbrev pub input_of : Instruction → ℕ
  input_of i = class_tag i low_state high_state (tags_at j g.box g.steps)

-- the view that the two corners give; the classes there say how many cuts there can be
abbrev pub corners_of : Job → Group → View
corners_of j g =
    let l = low_state j g in
    let h = high_state j g in
    record {
      is_open = λ f. not (eqb (f l) (f h));
      lowest = λ f. min (f l) (f h);
      highest = λ f. max (f l) (f h);
      pc = l.pc;
      reads = l.reads;
      pieces_of = λ i.
          corner_pieces (max (class_of i l) (class_of i h) - min (class_of i l) (class_of i h)) (λ c. class_of i (after j g.steps c))
          (input_of j g i) g.box;
    }

-- the weight of a list of groups
unfoldable pub weight : Job → List Group → ℕ
weight j gs = foldr (λ (g : Group) (n : ℕ). size g.box * (j.limit + 1 - g.steps) + n) 0 gs
