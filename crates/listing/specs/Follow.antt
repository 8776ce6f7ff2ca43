-- One choice followed through the forks, by the rules of the plain listing's moves: the group that the choice is in.
use Rattle.std.specs.Prelude.{◌≡◌, ℕ, zero, suc, ◌≤◌, ◌<◌, get_or, Option as Maybe, Some, None}
use Rattle.std.proofs.Math.Option.{Option, none, some}
use Rattle.boxes.specs.Boxes.{Choice, Box, ◌⋯◌, at, piece, Inside}
use Rattle.riscu.specs.Machine.{fetch}
use Rattle.riscu.specs.declared.Instruction.{Instruction}
use Rattle.listing.specs.Group.{Job, Group, after, class_of, view_of}
use Rattle.listing.specs.Ending.{needs, end_of}
use Rattle.listing.specs.Listing.{later, whole}
use Rattle.listing.specs.declared.End.{End}

-- the piece of a group that the choice falls in, one step later
unfoldable pub piece_of : Job → Group → Choice → Maybe Instruction → Group
piece_of j g c None = g
piece_of j g c (Some i) =
    let class : Choice → ℕ = λ d. class_of i (after j g.steps d) in
    later g (needs g (view_of j g) i) (piece class g.box (class c))

unfoldable pub follow_on : Job → Group → Choice → Option End → Group
follow_on j g c (some e) = g
follow_on j g c none = piece_of j g c (fetch j.code (view_of j g).pc)

-- the group of a choice after n steps, or at its end if that comes first
unfoldable pub follow : Job → Choice → ℕ → Group
follow j c zero = whole j
follow j c (suc n) = let g = follow j c n in follow_on j g c (end_of j g)

-- two choices fall in the same piece at every fork
abbrev pub SamePieces : Job → Choice → Choice → Type 0
SamePieces j c d = (n : ℕ) → (follow j c n).box ≡ (follow j d n).box

-- The choices of box b come before those of box d: they fall in the same pieces up to the fork of one step; there one input is cut,
-- and the piece of the former lies below the piece of the latter.
pub record Before (j : Job) (b d : Box) : Type 0 where
  pub step : ℕ
  pub input : ℕ
  pub same : (x y : Choice) → Inside x b → Inside y d → (n : ℕ) → n ≤ step → (follow j x n).box ≡ (follow j y n).box
  pub rising : (x y : Choice) → Inside x b → Inside y d
      → (u v : Choice) → Inside u (follow j x (suc step)).box → Inside v (follow j y (suc step)).box → at u input < at v input
  pub one_cut : (x y : Choice) → Inside x b → Inside y d → (i : ℕ) → ¬ (i ≡ input)
      → get_or (follow j x (suc step)).box i (0 ⋯ 0) ≡ get_or (follow j y (suc step)).box i (0 ⋯ 0)
