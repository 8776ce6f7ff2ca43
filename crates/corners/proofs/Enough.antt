-- The moves come to an end: each takes something from the weight of the waiting groups, their choices times the steps left to them.
-- Assumes nothing.
use mathlib.Core.Path.{◌≡◌, refl, sym, ap}
use mathlib.Core.List.Memᴰ
use mathlib.Core.List.{List, [], ◌∷◌, ◌++◌, map, foldr}
use mathlib.Core.List.Memᴰ.{head as here}
use mathlib.Core.Option.{Option, none, some}
use Prim.Native.Nat.{ℕ, zero, suc, ◌+◌, ◌-◌, ◌*◌, ◌≤◌, ◌<◌}
use native.Mathlib.Nat.{add-mul, one-le-mul}
use native.Mathlib.Omega.{arith}
use native.Mathlib.Decide.{dec_lt}
use Rattle.boxes.specs.Boxes.{Box, size, ◌∈◌}
use Rattle.boxes.proofs.Choices.{size_positive}
use Rattle.std.specs.Prelude.{Some}
use Rattle.listing.specs.Group.{Job, Group, view_of}
use Rattle.listing.specs.Ending.{needs, end_of}
use Rattle.listing.specs.Listing.{Path, later, path_of, split_by, move_by, move_from, moves, begin, enough, listing}
use Rattle.listing.specs.declared.End.{End}
use Rattle.corners.proofs.Moves.{Continues, continues, split_mem, partition, moves_each, waiting_good}
use Rattle.corners.specs.Working.Good.{Sound, Good, weight}

weight_append : (j : Job) (gs hs : List Group) → weight j (gs ++ hs) ≡ weight j gs + weight j hs
unfolding weight
weight_append j [] hs = omega arith
weight_append j (g ∷ gs) hs = omega (arith, weight_append j gs hs)

abbrev sizes : List Box → ℕ
sizes qs = foldr (λ (q : Box) (n : ℕ). size q + n) 0 qs

weight_later : (j : Job) (g : Group) (n : ℕ) (qs : List Box) → weight j (map (later g n) qs) ≡ sizes qs * (j.limit + 1 - (g.steps + 1))
unfolding weight
weight_later j g n [] = omega arith
weight_later j g n (q ∷ qs) =
    let w = j.limit + 1 - (g.steps + 1) in
    rw (weight_later j g n qs) (sym (add-mul (size q) (sizes qs) w))

-- a good group within the limit weighs something
module _ (j : Job) (g : Group) (good : Good j g) (l : g.steps ≤ j.limit) where
  weighs : 0 < size g.box * (j.limit + 1 - g.steps)
  weighs = one-le-mul (size_positive g.box good.sound.proper) (omega arith)

  -- and more than the groups into which it splits
  split_lighter : (k : Continues j g) → weight j (split_by g (view_of j g) (Some k.instruction)) < size g.box * (j.limit + 1 - g.steps)
  unfolding split_by
  split_lighter k =
      let w = j.limit + 1 - (g.steps + 1) in
      let e : j.limit + 1 - g.steps ≡ w + 1 = omega arith in
      let p = size_positive g.box good.sound.proper in
      rw (weight_later j g (needs g (view_of j g) k.instruction) ((view_of j g).pieces_of k.instruction), (partition j g good k).sizes, e)
      (omega arith)

InLimit : Job → List Group → Type 0
InLimit j gs = (g : Group) → g ∈ gs → (g.steps ≤ j.limit) × Good j g

move_lighter : (j : Job) (ps : List Path) (gs : List Group) → InLimit j gs → weight j (move_from view_of j ps gs).waiting ≤ weight j gs - 1
unfolding move_from move_by weight InLimit
move_lighter j ps [] h = omega arith
move_lighter j ps (g ∷ gs) h = go (end_of j g) refl
  where
    go : (o : Option End) → end_of j g ≡ o → weight j (move_by view_of j ps g gs o).waiting ≤ weight j (g ∷ gs) - 1
    go (some e) d = omega (arith, weighs j g (h g (here refl)).1 (h g (here refl)).0)
    go none d =
        let k = continues j g d in
        rw (k.fetched, weight_append j) (omega (arith, split_lighter j g (h g (here refl)).1 (h g (here refl)).0 k))

weightless : (j : Job) (gs : List Group) → InLimit j gs → weight j gs ≡ 0 → gs ≡ []
unfolding weight InLimit
weightless j [] h e = refl
weightless j (g ∷ gs) h e = absurd (omega (arith, weighs j g (h g (here refl)).1 (h g (here refl)).0))

module _ (j : Job) (sound : Sound j j.box) where
  -- no path and no group is longer than the step limit
  steps_limited : (n : ℕ)
      → ((p : Path) → p ∈ (moves view_of j n).ended → p.steps ≤ j.limit) × ((g : Group) → g ∈ (moves view_of j n).waiting → g.steps ≤ j.limit)
  unfolding path_of
  steps_limited =
      moves_each j sound (λ p. p.steps ≤ j.limit) (λ g. g.steps ≤ j.limit)
      (λ g e good d l. l)
      (λ g good k l x m.
      let e = (split_mem g (view_of j g) k.instruction m).2 in
      omega (arith, ap (λ (y : Group). y.steps) e, l, k.below_limit))
      (omega arith)

  pub listing_steps : (p : Path) → p ∈ listing j → p.steps ≤ j.limit
  unfolding listing
  listing_steps = (steps_limited (enough j)).0

  in_limit : (n : ℕ) → InLimit j (moves view_of j n).waiting
  unfolding InLimit
  in_limit n g m = ((steps_limited n).1 g m, waiting_good j sound n g m)

  lighter : (n : ℕ) → weight j (moves view_of j n).waiting ≤ enough j - n
  unfolding moves begin weight enough
  lighter zero = let e : j.limit + 1 - 0 ≡ j.limit + 1 = omega arith in rw e (omega arith)
  lighter (suc n) = let s = moves view_of j n in omega (arith, move_lighter j s.ended s.waiting (in_limit n), lighter n)

  -- with enough moves no group waits
  pub none_waits : (moves view_of j (enough j)).waiting ≡ []
  none_waits = weightless j (moves view_of j (enough j)).waiting (in_limit (enough j)) (omega (arith, lighter (enough j)))

  -- while a group waits, a move takes something from the weight
  pub weight_falls : (n : ℕ) {g : Group} → g ∈ (moves view_of j n).waiting
      → weight j (moves view_of j (suc n)).waiting < weight j (moves view_of j n).waiting
  unfolding moves
  weight_falls n {g} m =
      let s = moves view_of j n in
      let h : 0 < weight j s.waiting = elim (dec_lt 0 (weight j s.waiting)) [
        | yes l ↦ l
        | no l ↦ absurd (Memᴰ.not-nil (rw (weightless j s.waiting (in_limit n) (omega arith)) at m))
      ] in
      omega (arith, move_lighter j s.ended s.waiting (in_limit n))

  -- no group that waits is past the limit
  pub steps_in_limit : (n : ℕ) (g : Group) → g ∈ (moves view_of j n).waiting → g.steps ≤ j.limit
  unfolding InLimit
  steps_in_limit n g m = (in_limit n g m).0
