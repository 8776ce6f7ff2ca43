-- The listing of a sound job is complete: each choice in exactly one path, shared by pieces, in order.
-- Assumes nothing.
use mathlib.Core.Path.{◌≡◌, sym, ap, ◌∙◌}
use mathlib.Core.List.Memᴰ
use Prim.Native.Nat.{ℕ, ◌+◌, ◌≤◌, ◌<◌}
use native.Mathlib.Omega.{arith}
use native.Mathlib.Decide.{ℕ_discrete, dec_lt, dec_le}
use Rattle.boxes.specs.Boxes.{Choice, Box, lows, Inside}
use Rattle.boxes.proofs.Places.{mem_place, place_mem, pairwise_at, pairwise_map}
use Rattle.boxes.proofs.Divides.{Disjoint}
use Rattle.listing.specs.Group.{Job, Group}
use Rattle.listing.specs.Follow.{SamePieces, Before}
use Rattle.listing.specs.Listing.{Path, listing}
use Rattle.corners.proofs.Enough.{none_waits}
use Rattle.paths.proofs.Paths.{listing_divides}
use Rattle.paths.proofs.Follow.{Led, listing_led, follow_stays, follow_inside}
use Rattle.paths.proofs.Order.{listing_ordered, before_one_way}
use Rattle.calls.specs.Complete.{IsPath, Complete}
use Rattle.demands.proofs.Faithful.{listing_faithful}
use Rattle.corners.specs.Working.Good.{Sound}

abbrev path_box : Path → Box
path_box p = p.box

-- in one path: the same way up to its end, and they stay there
shares : {j : Job} {p : Path} → Led j p → (c d : Choice) → Inside c p.box → Inside d p.box → SamePieces j c d
shares {p = p} l c d h i n =
    elim (dec_le n p.steps) [
      | yes k ↦ ap (λ (g : Group). g.box) (l.leads.same_way c d (rw l.box h) (rw l.box i) n (omega (arith, l.steps)))
      | no k ↦ (let s : p.steps ≤ n = omega arith in ap (λ (g : Group). g.box) (follow_stays l c h n s ∙ sym (follow_stays l d i n s)))
    ]

-- once both are at their ends, the same piece is the same box
same_box : {j : Job} {p q : Path} → Led j p → Led j q → (c d : Choice) → Inside c p.box → Inside d q.box → SamePieces j c d
    → p.box ≡ q.box
same_box {p = p} {q = q} a b c d h i s =
    let n = p.steps + q.steps in
    let e = follow_stays a c h n (omega arith) in
    let f = follow_stays b d i n (omega arith) in
    sym a.box ∙ ap (λ (g : Group). g.box) (sym e) ∙ s n ∙ ap (λ (g : Group). g.box) f ∙ b.box

module _ (j : Job) (sound : Sound j j.box) where
  order : (m n : ℕ) (p q : Path) → IsPath j m p → IsPath j n q → m < n → Before j p.box q.box
  order =
      pairwise_at (λ (p q : Path). Before j p.box q.box) (listing j)
      (pairwise_map path_box (Before j) (listing j) (listing_ordered j sound))

  apart : (m n : ℕ) (p q : Path) → IsPath j m p → IsPath j n q → m < n → Disjoint p.box q.box
  apart =
      pairwise_at (λ (p q : Path). Disjoint p.box q.box) (listing j)
      (pairwise_map path_box Disjoint (listing j) (listing_divides j sound).apart)

  one_path : (c : Choice) (m n : ℕ) (p q : Path) → IsPath j m p → IsPath j n q → Inside c p.box → Inside c q.box → m ≡ n
  one_path c m n p q a b h i =
      elim (ℕ_discrete m n) [
        | yes e ↦ e
        | no e ↦ (elim (dec_lt m n) [
          | yes l ↦ absurd (apart m n p q a b l c h i)
          | no l ↦ absurd (apart n m q p b a (omega arith) c i h)
        ])
      ]

  led : (m : ℕ) (p : Path) → IsPath j m p → Led j p
  led m p a = listing_led j sound p (place_mem (listing j) m a)

  lowest : (m : ℕ) (p : Path) → IsPath j m p → Inside (lows p.box) p.box
  lowest m p a = (listing_faithful j sound p (place_mem (listing j) m a)).lowest

  -- and only so
  order_only : (m n : ℕ) (p q : Path) → IsPath j m p → IsPath j n q → Before j p.box q.box → m < n
  order_only m n p q a b f =
      let x = lows p.box in
      let y = lows q.box in
      let h = lowest m p a in
      let k = lowest n q b in
      let one_way : Before j q.box p.box → ⊥ =
      λ e. before_one_way f e x y h k (follow_inside (led m p a) x h) (follow_inside (led n q b) y k) in
      elim (dec_lt m n) [
        | yes l ↦ l
        | no l ↦ (elim (ℕ_discrete m n) [
          | yes e ↦ (let z : p ≡ q = cc in absurd (one_way (rw z (rw z at f))))
          | no e ↦ absurd (one_way (order n m q p b a (omega arith)))
        ])
      ]

  pub listing_complete : Complete j
  listing_complete =
      record {
        whole = none_waits j sound;
        some_path = λ c i.
            let (b, m, k) = (listing_divides j sound).cover c i in
            let (p, o, e) = Memᴰ.of_map (λ (q : Path). q.box) (listing j) m in
            let (n, z) = mem_place o in
            (n, p, z, rw e k);
        one_path = one_path;
        shared = λ c d m n p q a b h i. (
          λ e. let z : p ≡ q = cc in shares (led m p a) c d h (rw z i),
          λ s. one_path c m n p q a b h (rw (same_box (led m p a) (led n q b) c d h i s) at h),
        );
        order = λ m n p q a b. (order m n p q a b, order_only m n p q a b);
      }
