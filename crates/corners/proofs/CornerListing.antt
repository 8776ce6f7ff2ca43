-- The listing by corners is the plain listing.
-- Assumes nothing.
use mathlib.Core.Path.{◌≡◌, refl, sym, ap, ◌∙◌, fun_ext}
use mathlib.Core.List.Memᴰ.{head as here}
use mathlib.Core.List.{List, [], ◌∷◌, map}
use mathlib.Core.Option.{Option, none, some}
use Prim.Native.Nat.{ℕ, zero, suc, ◌≤◌}
use native.Mathlib.Omega.{arith}
use native.Mathlib.Decide.{dec_le}
use Rattle.boxes.specs.Boxes.{Interval, ◌⋯◌, from, ◌∈◌}
use Rattle.riscu.specs.Machine.{reg}
use Rattle.std.specs.Prelude.{Some}
use Rattle.listing.specs.Group.{Job, Group, View, view_of}
use Rattle.listing.specs.Ending.{needs, end_of}
use Rattle.listing.specs.Listing.{Path, Progress, progress, path_of, split_by, move_by, move_from, moves, enough, listing}
use Rattle.listing.specs.declared.End.{End}
use Rattle.corners.proofs.Corner.{good_uniform, lowest_agrees, highest_agrees, pieces_agree, end_agrees}
use Rattle.corners.proofs.Enough.{none_waits}
use Rattle.corners.proofs.Moves.{Continues, continues, followed, waiting_good}
use Rattle.corners.specs.Working.Good.{Sound, Good, corners_of}

module _ (j : Job) (g : Group) (good : Good j g) where
  pub path_agrees : (e : End) → path_of g (view_of j g) e ≡ path_of g (corners_of j g) e
  unfolding path_of
  path_agrees e =
      let interval : (r : ℕ)
      → ◌≡◌ {A = Interval} ((view_of j g).lowest (reg r) ⋯ (view_of j g).highest (reg r))
      ((corners_of j g).lowest (reg r) ⋯ (corners_of j g).highest (reg r)) =
      λ r. let o = (good_uniform j g good).registers.one r in cc (lowest_agrees j g good (reg r) o, highest_agrees j g good (reg r) o) in
      ap (λ (f : ℕ → Interval). record {
        end = e;
        pc = (view_of j g).pc;
        steps = g.steps;
        box = g.box;
        reads = (view_of j g).reads;
        registers = map f (from 0 32);
      })
      (fun_ext interval)

  split_agrees : (k : Continues j g) → split_by g (view_of j g) (Some k.instruction) ≡ split_by g (corners_of j g) (Some k.instruction)
  unfolding split_by needs
  split_agrees k = rw (pieces_agree j g good k.instruction (followed j g good k).settled)

move_agrees : (j : Job) (ps : List Path) (gs : List Group) → ((g : Group) → g ∈ gs → Good j g)
    → move_from view_of j ps gs ≡ move_from corners_of j ps gs
unfolding move_from move_by
move_agrees j ps [] h = refl
move_agrees j ps (g ∷ gs) h = rw (← end_agrees j g good) (go (end_of j g) refl)
  where
    good : Good j g
    good = h g (here refl)

    go : (o : Option End) → end_of j g ≡ o → move_by view_of j ps g gs o ≡ move_by corners_of j ps g gs o
    go (some e) d = rw (path_agrees j g good e)
    go none d = let k = continues j g d in rw (k.fetched, split_agrees j g good k)

pub corner_moves : (j : Job) → Sound j j.box → (n : ℕ) → moves view_of j n ≡ moves corners_of j n
unfolding moves
corner_moves j s zero = refl
corner_moves j s (suc n) =
    let p = moves view_of j n in
    move_agrees j p.ended p.waiting (waiting_good j s n)
    ∙ ap (λ (q : Progress). move_from corners_of j q.ended q.waiting) (corner_moves j s n)

-- once no group waits the moves change nothing more
pub moves_rest : (view : Job → Group → View) (j : Job) (n m : ℕ) → n ≤ m → (moves view j n).waiting ≡ [] → moves view j m ≡ moves view j n
unfolding moves move_from
moves_rest view j n zero l e = let z : n ≡ 0 = omega arith in rw z
moves_rest view j n (suc m) l e =
    elim (dec_le n m) [
      | yes h ↦ (let s = moves_rest view j n m h e in rw (s, e) (ap (λ (gs : List Group). progress (moves view j n).ended gs) (sym e)))
      | no h ↦ (let z : n ≡ suc m = omega arith in rw z)
    ]

-- the plain listing, by as many moves at the corners as it takes
pub listing_is : (j : Job) → Sound j j.box → (n : ℕ) → (moves corners_of j n).waiting ≡ [] → listing j ≡ (moves corners_of j n).ended
unfolding listing
listing_is j s n e =
    let d : (moves view_of j n).waiting ≡ [] = rw (corner_moves j s n) e in
    let m : moves view_of j (enough j) ≡ moves view_of j n = elim (dec_le n (enough j)) [
      | yes h ↦ moves_rest view_of j n (enough j) h d
      | no h ↦ sym (moves_rest view_of j (enough j) n (omega arith) (none_waits j s))
    ] in
    ap (λ (p : Progress). p.ended) (m ∙ corner_moves j s n)
