-- A choice of a path, followed through the forks, comes to the group that the path was.
-- Assumes nothing.
use mathlib.Core.Path.{◌≡◌, refl, sym, ap, ◌∙◌, subst}
use mathlib.Core.Option.{some}
use Prim.Native.Nat.{ℕ, zero, suc, ◌≤◌}
use native.Mathlib.Numerals.{add-one}
use native.Mathlib.Omega.{arith}
use native.Mathlib.Decide.{dec_le}
use Rattle.boxes.specs.Boxes.{Choice, Box, Inside, ◌∈◌}
use Rattle.boxes.proofs.Partition.{piece_is}
use Rattle.std.specs.Prelude.{Some}
use Rattle.listing.specs.Group.{Job, Group, view_of}
use Rattle.listing.specs.Ending.{needs, end_of}
use Rattle.listing.specs.Listing.{Path, whole, later, path_of, split_by, enough, listing}
use Rattle.listing.specs.Follow.{piece_of, follow_on, follow}
use Rattle.corners.proofs.Moves.{Continues, split_mem, partition, moves_each}
use Rattle.corners.specs.Working.Good.{Sound, Good}

-- the choices of a group are led to it, all the same way
pub record Leads (j : Job) (g : Group) : Type 0 where
  pub here_now : (c : Choice) → Inside c g.box → follow j c g.steps ≡ g
  pub same_way : (c d : Choice) → Inside c g.box → Inside d g.box → (n : ℕ) → n ≤ g.steps → follow j c n ≡ follow j d n
  pub stays_in : (c : Choice) → Inside c g.box → (n : ℕ) → n ≤ g.steps → Inside c (follow j c n).box

module _ (j : Job) (g : Group) (good : Good j g) (k : Continues j g) (led : Leads j g) where
  pub piece_here : (q : Box) → q ∈ (view_of j g).pieces_of k.instruction → (c : Choice) → Inside c q
      → follow j c (suc g.steps) ≡ later g (needs g (view_of j g) k.instruction) q
  unfolding follow follow_on piece_of
  piece_here q m c h =
      let w = (partition j g good k).within q m c h in
      rw (led.here_now c w, k.goes_on, k.fetched)
      (ap (later g (needs g (view_of j g) k.instruction)) (sym (piece_is g.box (partition j g good k) q m c h)))

  pub piece_leads : (x : Group) → x ∈ split_by g (view_of j g) (Some k.instruction) → Leads j x
  piece_leads x m =
      let (q, r, e) = split_mem g (view_of j g) k.instruction m in
      let within = (partition j g good k).within q r in
      subst (Leads j) e (record {
        here_now = λ c h. ap (follow j c) (add-one g.steps) ∙ piece_here q r c h;
        same_way = λ c d a b n l. elim (dec_le n g.steps) [
          | yes h ↦ led.same_way c d (within c a) (within d b) n h
          | no h ↦ (let z : n ≡ suc g.steps = omega arith in rw z (piece_here q r c a ∙ sym (piece_here q r d b)))
        ];
        stays_in = λ c a n l. elim (dec_le n g.steps) [
          | yes h ↦ led.stays_in c (within c a) n h
          | no h ↦ (let z : n ≡ suc g.steps = omega arith in rw (z, piece_here q r c a) a)
        ];
      })

pub whole_leads : (j : Job) → Leads j (whole j)
unfolding follow
whole_leads j =
    record {
      here_now = λ c h. refl;
      same_way = λ c d a b n l. let z : n ≡ 0 = omega arith in rw z;
      stays_in = λ c a n l. let z : n ≡ 0 = omega arith in rw z a;
    }

-- the group that a path was
pub record Led (j : Job) (p : Path) : Type 0 where
  pub group : Group
  pub leads : Leads j group
  pub ends : end_of j group ≡ some p.end
  pub box : group.box ≡ p.box
  pub steps : group.steps ≡ p.steps

pub listing_led : (j : Job) → Sound j j.box → (p : Path) → p ∈ listing j → Led j p
unfolding listing path_of
listing_led j sound =
    (moves_each j sound (Led j) (Leads j)
    (λ g e good d l. record { group = g; leads = l; ends = d; box = refl; steps = refl })
    (piece_leads j)
    (whole_leads j)
    (enough j)).0

-- at its end a choice stays
pub follow_stays : {j : Job} {p : Path} (l : Led j p) (c : Choice) → Inside c p.box → (n : ℕ) → p.steps ≤ n → follow j c n ≡ l.group
unfolding follow follow_on
follow_stays {j} {p} l c h zero k =
    let z : l.group.steps ≡ 0 = omega (arith, l.steps) in
    sym (ap (follow j c) z) ∙ l.leads.here_now c (rw l.box h)
follow_stays {j} {p} l c h (suc n) k =
    elim (dec_le p.steps n) [
      | yes i ↦ (let e = follow_stays l c h n i in rw (e, l.ends))
      | no i ↦ (let z : l.group.steps ≡ suc n = omega (arith, l.steps) in sym (ap (follow j c) z) ∙ l.leads.here_now c (rw l.box h))
    ]

-- a choice lies in each of its groups
pub follow_inside : {j : Job} {p : Path} → Led j p → (c : Choice) → Inside c p.box → (n : ℕ) → Inside c (follow j c n).box
follow_inside {j} {p} l c h n =
    elim (dec_le n p.steps) [
      | yes k ↦ l.leads.stays_in c (rw l.box h) n (omega (arith, l.steps))
      | no k ↦ rw (follow_stays l c h n (omega arith), l.box) h
    ]
