-- The paths of the listing stand in document 01's order.
-- Assumes nothing.
use mathlib.Core.Path.{◌≡◌, refl, sym, ap, ◌∙◌, subst}
use mathlib.Core.Logic.{⊎_elim}
use mathlib.Core.List.Memᴰ
use mathlib.Core.List.{List, [], ◌∷◌, ◌++◌, append_assoc, append-nil, map-append}
use mathlib.Core.List.Memᴰ.{head as here}
use mathlib.Core.List.Memᴰ.{tail as there}
use Prim.Native.Nat.{ℕ, suc, ◌≤◌, ◌<◌}
use native.Mathlib.Omega.{arith}
use native.Mathlib.Decide.{ℕ_discrete, dec_lt}
use lib.ListN.{length, get_or, set, get_or-eq_default}
use lib.Seq.{get_or-set_same}
use Rattle.boxes.specs.Boxes.{Choice, Box, Interval, ◌⋯◌, at, lows, highs, Inside, Within, ◌∈◌}
use Rattle.boxes.proofs.Places.{Pairwise, pairwise_split}
use Rattle.boxes.proofs.Choices.{inside_at, inside_length, inside_set, lows_at, highs_at}
use Rattle.boxes.proofs.OneInput.{one_input_convex}
use Rattle.boxes.proofs.Partition.{Rising, pieces_cut_one}
use Rattle.listing.specs.Group.{Job, Group, view_of}
use Rattle.listing.specs.Listing.{Path, path_of, split_by, moves, enough, listing}
use Rattle.listing.specs.Follow.{follow, Before}
use Rattle.corners.proofs.Corner.{class_one}
use Rattle.corners.proofs.Moves.{Continues, followed, partition, moves_hold}
use Rattle.corners.proofs.Enough.{none_waits}
use Rattle.paths.proofs.Paths.{path_boxes, group_boxes, later_boxes}
use Rattle.paths.proofs.Follow.{Leads, piece_here, piece_leads, whole_leads}
use Rattle.corners.specs.Working.Good.{Sound, Good, input_of}

before_within : {j : Job} {b d : Box} (b' d' : Box) → Within b' b → Within d' d → Before j b d → Before j b' d'
before_within b' d' w v f =
    record {
      step = f.step;
      input = f.input;
      same = λ x y m n. f.same x y (w x m) (v y n);
      rising = λ x y m n. f.rising x y (w x m) (v y n);
      one_cut = λ x y m n. f.one_cut x y (w x m) (v y n);
    }

module _ (j : Job) (g : Group) (good : Good j g) (k : Continues j g) (led : Leads j g) where
  abbrev parts : List Box
  parts = (view_of j g).pieces_of k.instruction

  within : (q : Box) → q ∈ parts → Within q g.box
  within = (partition j g good k).within

  fallen : (q : Box) → q ∈ parts → (c : Choice) → Inside c q → (follow j c (suc g.steps)).box ≡ q
  fallen q m c h = ap (λ (x : Group). x.box) (piece_here j g good k led q m c h)

  cut_one : (q : Box) → q ∈ parts → (x : ℕ) → ¬ (x ≡ input_of j g k.instruction) → get_or q x (0 ⋯ 0) ≡ get_or g.box x (0 ⋯ 0)
  cut_one =
      pieces_cut_one g.box good.sound.proper
      (one_input_convex g.box (class_one j g good k.instruction (followed j g good k).settled))

  piece_before : (q r : Box) → q ∈ parts → r ∈ parts
      → at (highs q) (input_of j g k.instruction) < at (lows r) (input_of j g k.instruction) → Before j q r
  piece_before q r m n l =
      let i = input_of j g k.instruction in
      record {
        step = g.steps;
        input = i;
        same = λ x y a b z s. ap (λ (h : Group). h.box) (led.same_way x y (within q m x a) (within r n y b) z s);
        rising = λ x y a b u v c d.
            omega (arith, inside_at q u (rw (fallen q m x a) at c) i, inside_at r v (rw (fallen r n y b) at d) i);
        one_cut = λ x y a b z d. rw (fallen q m x a, fallen r n y b) (cut_one q m z d ∙ sym (cut_one r n z d));
      }

  pieces_before : (qs : List Box) → ((q : Box) → q ∈ qs → q ∈ parts) → Rising (input_of j g k.instruction) qs → Pairwise (Before j) qs
  pieces_before [] sub h = tt
  pieces_before (q ∷ qs) sub h =
      (λ r n. piece_before q r (sub q (here refl)) (sub r (there n)) (h.0 r n), pieces_before qs (λ r n. sub r (there n)) h.1)

module _ (j : Job) (sound : Sound j j.box) where
  abbrev InOrder : List Path → List Group → Type 0
  InOrder ps gs = Pairwise (Before j) (path_boxes ps ++ group_boxes gs) × ((g : Group) → g ∈ gs → Leads j g)

  moves_ordered : (n : ℕ) → let s = moves view_of j n in InOrder s.ended s.waiting
  unfolding path_of split_by
  moves_ordered n =
      (moves_hold j sound InOrder
      (λ ps g gs e good d h. (rw (map-append, append_assoc) h.0, λ x m. h.1 x (there m)))
      (λ ps g gs good k h.
      let led = h.1 g (here refl) in
      let qs = (view_of j g).pieces_of k.instruction in
      let w = (partition j g good k).within in (
        rw (map-append, later_boxes)
            (pairwise_split (Before j) (path_boxes ps) qs (group_boxes gs) h.0
            (pieces_before j g good k led qs (λ q m. m) (partition j g good k).rising)
            (λ x q m b. before_within x q (λ c i. i) (w q m) b)
            (λ q y m b. before_within q y (w q m) (λ c i. i) b)),
        λ x m. ⊎_elim (λ n. piece_leads j g good k led x n) (λ n. h.1 x (there n)) (Memᴰ.append_cases _ m),
      ))
      ((λ y m. absurd (Memᴰ.not-nil m), tt), λ g m. rw (Memᴰ.eq_of_singleton m) (whole_leads j))
      n).0

  pub listing_ordered : Pairwise (Before j) (path_boxes (listing j))
  unfolding listing
  listing_ordered = rw (none_waits j sound, append-nil) at (moves_ordered (enough j)).0

-- Not both ways: pieces of one fork differ along the input cut alone.

-- with one interval of input i, a choice of the second box may have the value that a choice of the first has
moved : (a b : Box) (x y : Choice) (i : ℕ) → Inside x a → Inside y b → get_or a i (0 ⋯ 0) ≡ get_or b i (0 ⋯ 0)
    → (z : Choice) × Inside z b × (at z i ≡ at x i)
moved a b x y i h k e =
    let l = ap (λ (v : Interval). v.low) e in
    let u = ap (λ (v : Interval). v.high) e in
    let x_at = inside_at a x h i in
    let y_at = inside_at b y k i in
    let low_a = lows_at a i in
    let low_b = lows_at b i in
    let high_a = highs_at a i in
    let high_b = highs_at b i in
    elim (dec_lt i (length y)) [
      | yes m ↦ (set y i (at x i), inside_set b y i (at x i) k (omega arith) (omega arith), get_or-set_same y i (at x i) 0 m)
      | no m ↦ (
          let n : length b ≤ i = omega (arith, inside_length b y k) in
          let o = ap (λ (v : Interval). v.high) (get_or-eq_default b (0 ⋯ 0) n) in
          (y, k, omega arith)
          )
    ]

pub before_one_way : {j : Job} {b d : Box} → Before j b d → Before j d b → (x y : Choice) → Inside x b → Inside y d
    → ((n : ℕ) → Inside x (follow j x n).box) → ((n : ℕ) → Inside y (follow j y n).box) → ⊥
before_one_way {j} f g x y h k inx iny =
    elim (dec_lt f.step g.step) [
      | yes l ↦ (let n = suc f.step in omega (arith, f.rising x y h k x x (inx n) (rw (g.same y x k h n l) (inx n))))
      | no l ↦ (elim (dec_lt g.step f.step) [
        | yes m ↦ (let n = suc g.step in omega (arith, g.rising y x k h y y (iny n) (rw (f.same x y h k n m) (iny n))))
        | no m ↦ (
            let z : g.step ≡ f.step = omega arith in
            let n = suc f.step in
            let r : (u v : Choice) → Inside u (follow j y n).box → Inside v (follow j x n).box → at u g.input < at v g.input =
            subst (λ (s : ℕ). (u v : Choice) → Inside u (follow j y (suc s)).box → Inside v (follow j x (suc s)).box → at u g.input
            < at v g.input) z (g.rising y x k h) in
            elim (ℕ_discrete g.input f.input) [
              | yes e ↦ omega (arith, f.rising x y h k x y (inx n) (iny n), rw e at (r y x (iny n) (inx n)))
              | no e ↦ (
                  let (w, i, q) = moved (follow j x n).box (follow j y n).box x y g.input (inx n) (iny n)
                  (f.one_cut x y h k g.input e) in
                  omega (arith, r w x i (inx n))
                  )
            ]
            )
      ])
    ]
