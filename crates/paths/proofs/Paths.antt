-- The paths divide the starting box: every choice lies in exactly one. And the group that a path was.
-- Assumes nothing.
use mathlib.Core.Path.{◌≡◌, refl, ap}
use mathlib.Core.List.{List, [], ◌∷◌, ◌++◌, append_assoc, append-nil, map, map-append}
use Prim.Native.Nat.{ℕ}
use mathlib.Core.Option.{some}
use Rattle.boxes.specs.Boxes.{Box, ◌∈◌}
use Rattle.boxes.proofs.Divides.{Divides, one_divides, divides_split, partition_divides}
use Rattle.listing.specs.Group.{Job, Group, view_of}
use Rattle.listing.specs.Ending.{end_of}
use Rattle.listing.specs.declared.End.{End}
use Rattle.listing.specs.Listing.{Path, later, path_of, split_by, moves, enough, listing}
use Rattle.corners.proofs.Moves.{partition, moves_hold, moves_each}
use Rattle.corners.proofs.Enough.{none_waits}
use Rattle.corners.specs.Working.Good.{Sound, Good}

-- The boxes of the paths and of the groups that wait divide the starting box.

abbrev pub path_boxes : List Path → List Box
path_boxes ps = map (λ (p : Path). p.box) ps

abbrev pub group_boxes : List Group → List Box
group_boxes gs = map (λ (g : Group). g.box) gs

pub later_boxes : (g : Group) (n : ℕ) (qs : List Box) → group_boxes (map (later g n) qs) ≡ qs
later_boxes g n [] = refl
later_boxes g n (q ∷ qs) = ap (λ (l : List Box). q ∷ l) (later_boxes g n qs)

module _ (j : Job) (sound : Sound j j.box) where
  moves_divide : (n : ℕ) → let s = moves view_of j n in Divides j.box (path_boxes s.ended ++ group_boxes s.waiting)
  unfolding path_of split_by
  moves_divide n =
      (moves_hold j sound (λ ps gs. Divides j.box (path_boxes ps ++ group_boxes gs))
      (λ ps g gs e good d h. rw (map-append, append_assoc) h)
      (λ ps g gs good k h.
      let qs = (view_of j g).pieces_of k.instruction in
      rw (map-append, later_boxes)
      (divides_split j.box g.box (path_boxes ps) qs (group_boxes gs) h (partition_divides (partition j g good k))))
      (one_divides j.box) n).0

  pub listing_divides : Divides j.box (path_boxes (listing j))
  unfolding listing
  listing_divides = rw (none_waits j sound, append-nil) at (moves_divide (enough j))

-- an ended path: the group that it was
pub record Ended (j : Job) (p : Path) : Type 0 where
  pub group : Group
  pub good : Good j group
  pub end : End
  pub ends : end_of j group ≡ some end
  pub path : path_of group (view_of j group) end ≡ p

module _ (j : Job) (sound : Sound j j.box) where
  pub listing_ended : (p : Path) → p ∈ listing j → Ended j p
  unfolding listing
  listing_ended =
      (moves_each j sound (Ended j) (λ g. Unit {0})
      (λ g e good d t. record { group = g; good = good; end = e; ends = d; path = refl })
      (λ g good k t x m. tt)
      tt
      (enough j)).0
