-- Induction along the cuts, and what it shows: the pieces divide the box by class, in rising order of the input cut, their sizes
-- add up, each is that of the class of its choices, and they differ in the input cut alone.
-- Assumes nothing.
use mathlib.Core.Path.{◌≡◌, refl, sym, ap, ◌∙◌}
use mathlib.Core.Bool.{not}
use mathlib.Core.Logic.{◌⊎◌, inl, inr, ⊎_elim, ◌≢◌, ◌↔◌}
use mathlib.Core.List.Memᴰ
use mathlib.Core.List.Memᴰ.{head as here}
use mathlib.Core.List.Memᴰ.{tail as there}
use mathlib.Core.List.{List, [], ◌∷◌, map, tail, foldr}
use Prim.Native.Nat.{ℕ, zero, suc, ◌+◌, ◌<◌}
use native.Mathlib.Omega.{arith}
use native.Mathlib.Decide.{ℕ_discrete, dec_le}
use lib.Dec.{eqb, ltb}
use lib.ListN.{length, get_or}
use lib.Seq.{get_or-set_other}
use borrow.Author.Tests.{eqb-true, eqb-false, eq-eqb, lt-ltb}
use Rattle.boxes.specs.Boxes.{Choice, Box, ◌⋯◌, at, choices, size, keep, classes, hull, piece, pieces, lows, highs, Inside, ◌∈◌}
use Rattle.boxes.specs.Boxes.{Within}
use Rattle.boxes.specs.Working.Cuts.{Proper, OneInput, Convex, below, above, Edge}
use Rattle.boxes.proofs.Lists.{by_test, mem_keep}
use Rattle.boxes.proofs.Places.{nonempty}
use Rattle.boxes.proofs.Extremes.{least_le, le_greatest}
use Rattle.boxes.proofs.Choices.{mem_choices, lows_inside, inside_length, inside_at}
use Rattle.boxes.proofs.OneInput.{constant_corner, one_input_convex, convex_within}
use Rattle.boxes.proofs.Cut.{inside_below, inside_above, below_within, above_within, size_cut}
use Rattle.boxes.proofs.Cut.{high_below, low_above, highs_above, proper_below, proper_above}
use Rattle.boxes.proofs.Pieces.{classes_mem, pieces_one, convex_corner, pieces_cut, class_below, class_above, edge_exists}

-- What holds of a box of one class as its only piece, and of a cut box if it holds of the half above the edge, holds of every box
-- with its pieces.
module _ {k : Choice → ℕ} {i : ℕ} (P : Box → List Box → Type 0)
    (one : (b : Box) → Proper b → ((c : Choice) → Inside c b → k c ≡ k (lows b)) → P b (b ∷ []))
    (more : (b : Box) (m : ℕ) → Proper b → Convex b i k → Edge k b i m → (ps : List Box) → P (above b i m) ps
    → P b (below b i m ∷ ps)) where
  by_cuts : (n : ℕ) (b : Box) → at (highs b) i < at (lows b) i + n → Proper b → Convex b i k → P b (pieces k b)
  by_cuts zero b w p x = let h = inside_at b (lows b) (lows_inside b p) i in absurd (omega arith)
  by_cuts (suc n) b w p x =
      elim (ℕ_discrete (k (lows b)) (k (highs b))) [
        | yes e ↦ let h = convex_corner b p x e in rw (pieces_one k b p h) (one b p h)
        | no d ↦
            let (m, e) = edge_exists b p x d in
            let s = e.splits in
            rw (pieces_cut p x e)
            (more b m p x e (pieces k (above b i m))
            (by_cuts n (above b i m) (rw (low_above s, highs_above s) (omega arith)) (proper_above s p)
            (convex_within b (above b i m) (above_within s) x)))
      ]

  pub pieces_ind : (b : Box) → Proper b → Convex b i k → P b (pieces k b)
  pieces_ind b p x = by_cuts (suc (at (highs b) i)) b (omega arith) p x

-- The boxes `ps` divide the box b by class k, in rising order of input i.

abbrev pub Rising : ℕ → List Box → Type 0
Rising i [] = Unit {0}
Rising i (q ∷ ps) = ((r : Box) → r ∈ ps → at (highs q) i < at (lows r) i) × Rising i ps

pub record Partition (k : Choice → ℕ) (i : ℕ) (b : Box) (ps : List Box) : Type 0 where
  pub proper : (q : Box) → q ∈ ps → Proper q
  pub within : (q : Box) → q ∈ ps → Within q b
  pub cover : (c : Choice) → Inside c b → (q : Box) × (q ∈ ps) × Inside c q
  pub alike : (q r : Box) → q ∈ ps → r ∈ ps → (c d : Choice) → Inside c q → Inside d r → (q ≡ r) ↔ (k c ≡ k d)
  pub rising : Rising i ps
  pub sizes : foldr (λ (q : Box) (n : ℕ). size q + n) 0 ps ≡ size b

partition_one : {k : Choice → ℕ} {i : ℕ} (b : Box) → Proper b → ((c : Choice) → Inside c b → k c ≡ k (lows b))
    → Partition k i b (b ∷ [])
partition_one b p h = record {
  proper = λ q m. rw (is m) p;
  within = λ q m c j. rw (is m) at j;
  cover = λ c j. (b, here refl, j);
  alike = λ q r m n c d j l. (λ z. h c (rw (is m) at j) ∙ sym (h d (rw (is n) at l)), λ z. is m ∙ sym (is n));
  rising = (λ r m. absurd (Memᴰ.not-nil m), tt);
  sizes = omega arith;
}
  where
    is : {q : Box} → q ∈ b ∷ [] → q ≡ b
    is m = Memᴰ.eq_of_singleton m

module _ {k : Choice → ℕ} {i : ℕ} (b : Box) (m : ℕ) (p : Proper b) (x : Convex b i k) (e : Edge k b i m)
    (ps : List Box) (P : Partition k i (above b i m) ps) where
  first : {q : Box} → q ≡ below b i m → (c : Choice) → Inside c q → k c ≡ k (lows b)
  first z c j = class_below p x e c (rw z at j)

  later : {q : Box} → q ∈ ps → (c : Choice) → Inside c q → k c ≢ k (lows b)
  later {q} o c j = class_above p x e c (P.within q o c j)

  both : {q r : Box} → (q ≡ below b i m) ⊎ (q ∈ ps) → (r ≡ below b i m) ⊎ (r ∈ ps)
      → (c d : Choice) → Inside c q → Inside d r → (q ≡ r) ↔ (k c ≡ k d)
  both (inl z) (inl y) c d j l = (λ a. first z c j ∙ sym (first y d l), λ a. z ∙ sym y)
  both (inl z) (inr o) c d j l = (λ a. absurd (later o d l (first (sym a ∙ z) d l)), λ a. absurd (later o d l (sym a ∙ first z c j)))
  both (inr n) (inl y) c d j l = (λ a. absurd (later n c j (first (a ∙ y) c j)), λ a. absurd (later n c j (a ∙ first y d l)))
  both {q} {r} (inr n) (inr o) c d j l = P.alike q r n o c d j l

  partition_more : Partition k i b (below b i m ∷ ps)
  partition_more =
      let s = e.splits in
      record {
        proper = λ q n. ⊎_elim (λ z. rw z (proper_below s p)) (λ o. P.proper q o) (Memᴰ.cases_cons n);
        within = λ q n c j. ⊎_elim (λ z. below_within s c (rw z at j)) (λ o. above_within s c (P.within q o c j)) (Memᴰ.cases_cons n);
        cover = λ c j. elim (dec_le (at c i) m) [
          | yes a ↦ (below b i m, here refl, (inside_below s c).1 (j, a))
          | no a ↦ let (q, n, o) = P.cover c ((inside_above s c).1 (j, omega arith)) in (q, there n, o)
        ];
        alike = λ q r n o. both (Memᴰ.cases_cons n) (Memᴰ.cases_cons o);
        rising = (
          λ r n. rw (high_below s) ((inside_above s (lows r)).0 (P.within r n (lows r) (lows_inside r (P.proper r n)))).1,
          P.rising,
        );
        sizes = omega (arith, P.sizes, size_cut s);
      }

pub pieces_partition : {k : Choice → ℕ} {i : ℕ} (b : Box) → Proper b → Convex b i k → Partition k i b (pieces k b)
pieces_partition {k} {i} b p x = pieces_ind (λ b ps. Partition k i b ps) partition_one partition_more b p x

-- a class that hangs on one input has two pieces or more exactly where the corners differ
pub pieces_fork : {k : Choice → ℕ} {i : ℕ} (b : Box) → Proper b → OneInput b i k
    → ltb 1 (length (pieces k b)) ≡ not (eqb (k (lows b)) (k (highs b)))
pieces_fork {k} {i} b p o =
    by_test (eqb (k (lows b)) (k (highs b)))
    (λ t. rw (t, pieces_one k b p (constant_corner b p o (eqb-true (k (lows b)) (k (highs b)) t))))
    (λ t.
    let x = one_input_convex b o in
    let (m, e) = edge_exists b p x (eqb-false (k (lows b)) (k (highs b)) t) in
    let a = above b i m in
    let q = proper_above e.splits p in
    let r = (pieces_partition a q (convex_within b a (above_within e.splits) x)).cover (lows a) (lows_inside a q) in
    rw (t, pieces_cut p x e) (lt-ltb 1 (suc (length (pieces k a))) (omega (arith, nonempty (pieces k a) r.1))))

-- a box drawn around choices holds them
hull_inside : (n : ℕ) (l : List Choice) (c : Choice) → c ∈ l → length c ≡ n → Inside c (hull n l)
unfolding hull
hull_inside zero l [] m e = tt
hull_inside zero l (x ∷ c) m e = absurd (omega arith)
hull_inside (suc n) l [] m e = absurd (omega arith)
hull_inside (suc n) l (x ∷ c) m e =
    let xs = map (λ (d : Choice). at d 0) l in
    let i : x ∈ xs = Memᴰ.map (λ (d : Choice). at d 0) m in
    (least_le xs i, le_greatest xs i, hull_inside n (map tail l) c (Memᴰ.map tail m) (omega arith))

-- a piece is that of the class of each of its choices
pub piece_is : {k : Choice → ℕ} {i : ℕ} (b : Box) → Partition k i b (pieces k b)
    → (q : Box) → q ∈ pieces k b → (c : Choice) → Inside c q → q ≡ piece k b (k c)
unfolding pieces piece
piece_is {k} b p q m c h =
    let (v, n, e) = Memᴰ.of_map (piece k b) (classes (map k (choices b))) m in
    let (d, o, f) = Memᴰ.of_map k (choices b) (classes_mem (map k (choices b)) n) in
    let w : Inside d (piece k b v) =
    hull_inside (length b) (keep (λ (x : Choice). eqb (k x) v) (choices b)) d (mem_keep (λ (x : Choice). eqb (k x) v) o (eq-eqb (k d) v f))
    (inside_length b d ((mem_choices b d).0 o)) in
    let z : k c ≡ v = (p.alike q q m m c d h (rw e at w)).0 refl ∙ f in
    sym e ∙ ap (piece k b) (sym z)

-- the pieces of a class that hangs on input i differ from their box in its interval alone
pub pieces_cut_one : {k : Choice → ℕ} {i : ℕ} (b : Box) → Proper b → Convex b i k
    → (q : Box) → q ∈ pieces k b → (x : ℕ) → ¬ (x ≡ i) → get_or q x (0 ⋯ 0) ≡ get_or b x (0 ⋯ 0)
pieces_cut_one {k} {i} =
    pieces_ind {k = k} {i = i} (λ b ps. (q : Box) → q ∈ ps → (x : ℕ) → ¬ (x ≡ i) → get_or q x (0 ⋯ 0) ≡ get_or b x (0 ⋯ 0))
    (λ b p h q m x n. ap (λ (r : Box). get_or r x (0 ⋯ 0)) (Memᴰ.eq_of_singleton m))
    (λ b c p h e ps ih q m x n. ⊎_elim
    (λ z. ap (λ (r : Box). get_or r x (0 ⋯ 0)) z ∙ get_or-set_other b i x _ (0 ⋯ 0) n)
    (λ o. ih q o x n ∙ get_or-set_other b i x _ (0 ⋯ 0) n)
    (Memᴰ.cases_cons m))
