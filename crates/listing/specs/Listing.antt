-- The plain listing of document 01: the state is the ended paths and the waiting groups; each move takes the first waiting group.
use Rattle.std.specs.Prelude.{ℕ, zero, suc, ◌+◌, ◌*◌, List, [], ◌∷◌, ◌++◌, map, Option as Maybe, Some, None}
use Rattle.std.proofs.Math.Option.{Option, none, some}
use Rattle.boxes.specs.Boxes.{Box, Interval, ◌⋯◌, from, size}
use Rattle.riscu.specs.Machine.{reg, fetch}
use Rattle.riscu.specs.declared.Instruction.{Instruction}
use Rattle.listing.specs.Group.{Job, Group, View, view_of}
use Rattle.listing.specs.Ending.{end_by, needs}
use Rattle.listing.specs.declared.End.{End}

-- an ended path; its number is its place in the listing
pub record Path : Type 0 where
  pub end : End
  pub pc : ℕ
  pub steps : ℕ
  pub box : Box
  pub reads : ℕ
  pub registers : List Interval

-- the path that a group is, once it has ended
unfoldable pub path_of : Group → View → End → Path
path_of g v e =
    record {
      end = e;
      pc = v.pc;
      steps = g.steps;
      box = g.box;
      reads = v.reads;
      registers = map (λ r. v.lowest (reg r) ⋯ v.highest (reg r)) (from 0 32);
    }

-- a piece of a group, one step later, with n entries more
abbrev pub later : Group → ℕ → Box → Group
later g n b = record { box = b; steps = g.steps + 1; used = g.used + n }

-- the groups that take a group's place
unfoldable pub split_by : Group → View → Maybe Instruction → List Group
split_by g v None = []
split_by g v (Some i) = map (later g (needs g v i)) (v.pieces_of i)

pub record Progress : Type 0 where
  pub ended : List Path
  pub waiting : List Group

abbrev pub progress : List Path → List Group → Progress
progress ps gs = record { ended = ps; waiting = gs }

-- the starting box
abbrev pub whole : Job → Group
whole j = record { box = j.box; steps = 0; used = 0 }

unfoldable pub begin : Job → Progress
begin j = progress [] (whole j ∷ [])

-- The moves, by a view of each group.
module _ (view : Job → Group → View) (j : Job) where
  unfoldable pub move_by : List Path → Group → List Group → Option End → Progress
  move_by ps g gs (some e) = progress (ps ++ (path_of g (view j g) e ∷ [])) gs
  move_by ps g gs none = progress ps (split_by g (view j g) (fetch j.code (view j g).pc) ++ gs)

  unfoldable pub move_from : List Path → List Group → Progress
  move_from ps [] = progress ps []
  move_from ps (g ∷ gs) = move_by ps g gs (end_by j g (view j g))

  unfoldable pub moves : ℕ → Progress
  moves zero = begin j
  moves (suc n) = let s = moves n in move_from s.ended s.waiting

-- Enough moves: each one ends a group or adds a step to all of its choices.
unfoldable pub enough : Job → ℕ
enough j = size j.box * (j.limit + 1)

unfoldable pub listing : Job → List Path
listing j = (moves view_of j (enough j)).ended
