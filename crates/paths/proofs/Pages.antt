-- What the moves made so far say of the whole listing: the paths ended are its first ones, and each group that waits gives one more
-- at least.
-- Assumes nothing.
use mathlib.Core.Path.{◌≡◌, refl, sym, ◌∙◌}
use mathlib.Core.List.Memᴰ.{head as here}
use mathlib.Core.List.{List, [], ◌∷◌, ◌++◌, append_assoc, append-nil}
use mathlib.Core.Option.{Option, none, some}
use Prim.Native.Nat.{ℕ, zero, suc, ◌+◌, ◌≤◌, ◌<◌}
use native.Mathlib.Omega.{arith}
use native.Mathlib.Decide.{dec_le}
use lib.ListN.{length, length-append, length-map}
use Rattle.boxes.specs.Boxes.{lows, ◌∈◌}
use Rattle.boxes.proofs.Places.{nonempty}
use Rattle.boxes.proofs.Choices.{lows_inside}
use Rattle.std.specs.Prelude.{Some}
use Rattle.listing.specs.Group.{Job, Group, view_of}
use Rattle.listing.specs.Ending.{end_of}
use Rattle.listing.specs.Listing.{Path, Progress, progress, split_by, move_by, move_from, moves, enough, listing}
use Rattle.listing.specs.declared.End.{End}
use Rattle.corners.proofs.Moves.{Continues, continues, partition, waiting_good}
use Rattle.corners.proofs.Enough.{none_waits}
use Rattle.corners.proofs.CornerListing.{moves_rest}
use Rattle.corners.specs.Working.Good.{Sound, Good}

-- t goes on from s: it has the paths of s first, and no fewer paths and groups
pub record Further (s t : Progress) : Type 0 where
  pub rest : List Path
  pub ended : t.ended ≡ s.ended ++ rest
  pub count : length s.ended + length s.waiting ≤ length t.ended + length t.waiting

further_refl : (s : Progress) → Further s s
further_refl s = record { rest = []; ended = sym (append-nil s.ended); count = omega arith }

further_trans : {s t u : Progress} → Further s t → Further t u → Further s u
further_trans {s} f g =
    record {
      rest = f.rest ++ g.rest;
      ended = g.ended ∙ rw f.ended (append_assoc s.ended f.rest g.rest);
      count = omega arith;
    }

split_some : (j : Job) (g : Group) → Good j g → (k : Continues j g) → 0 < length (split_by g (view_of j g) (Some k.instruction))
unfolding split_by
split_some j g good k =
    let (q, m, i) = (partition j g good k).cover (lows g.box) (lows_inside g.box good.sound.proper) in
    rw length-map (nonempty ((view_of j g).pieces_of k.instruction) m)

move_further : (j : Job) (ps : List Path) (gs : List Group) → ((g : Group) → g ∈ gs → Good j g)
    → Further (progress ps gs) (move_from view_of j ps gs)
unfolding move_from move_by
move_further j ps [] h = further_refl (progress ps [])
move_further j ps (g ∷ gs) h = go (end_of j g) refl
  where
    go : (o : Option End) → end_of j g ≡ o → Further (progress ps (g ∷ gs)) (move_by view_of j ps g gs o)
    go (some e) d = record { rest = _; ended = refl; count = simp length-append (omega arith) }
    go none d =
        let k = continues j g d in
        rw k.fetched
        (record { rest = []; ended = sym (append-nil ps); count = simp length-append (omega (arith, split_some j g (h g (here refl)) k)) })

module _ (j : Job) (sound : Sound j j.box) where
  further : (n m : ℕ) → n ≤ m → Further (moves view_of j n) (moves view_of j m)
  unfolding moves
  further n zero l = let e : n ≡ 0 = omega arith in rw e (further_refl (moves view_of j 0))
  further n (suc m) l =
      elim (dec_le n m) [
        | yes h ↦ (let t = moves view_of j m in
            further_trans (further n m h) (move_further j t.ended t.waiting (waiting_good j sound m)))
        | no h ↦ (let e : n ≡ suc m = omega arith in rw e (further_refl (moves view_of j (suc m))))
      ]

  -- of the whole listing
  pub listing_further : (n : ℕ) → Further (moves view_of j n) (progress (listing j) [])
  unfolding listing
  listing_further n =
      let w = none_waits j sound in
      let s = moves view_of j (enough j) in
      let f : Further (moves view_of j n) s = elim (dec_le n (enough j)) [
        | yes h ↦ further n (enough j) h
        | no h ↦ rw (moves_rest view_of j (enough j) n (omega arith) w) (further_refl s)
      ] in
      rw w at f
