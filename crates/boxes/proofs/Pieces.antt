-- The pieces of a box, from the lowest choice up: one piece where the class is the same all over, and otherwise the half up to
-- the edge, the last value with the class of the lowest choice, and then the pieces of the half above it.
-- Assumes nothing.
use mathlib.Core.Path.{◌≡◌, refl, sym, ap, ap₂, ◌∙◌}
use mathlib.Core.Logic.{⊎_elim, ◌≢◌}
use mathlib.Core.Bool.{Bool, true, true≢false, not}
use mathlib.Core.List.{List, [], ◌∷◌, map, tail}
use mathlib.Core.List.Memᴰ
use mathlib.Core.List.Memᴰ.{head as here}
use mathlib.Core.List.Memᴰ.{tail as there}
use Prim.Native.Nat.{ℕ, zero, suc, ◌+◌, ◌^◌, ◌≤◌, ◌<◌}
use native.Mathlib.Omega.{arith}
use native.Mathlib.Decide.{dec_lt}
use lib.Dec.{eqb, leb}
use lib.ListN.{length, set, length-set, length-map}
use lib.Pow.{pow_pos}
use lib.Seq.{get_or-set_same, set-get_or}
use borrow.Author.Tests.{eqb-true, eqb-false, eq-eqb, ne_eqb, leb-true, leb-false, le-leb, lt-leb}
use Rattle.boxes.specs.Boxes.{Choice, Interval, ◌⋯◌, Box, at, choices, keep, classes, hull, piece, pieces, lows, highs, ◌∈◌}
use Rattle.boxes.specs.Boxes.{Inside}
use Rattle.boxes.specs.Working.Cuts.{Proper, Convex, below, above, Edge, edge}
use Rattle.boxes.proofs.Lists.{by_test, map_cong, keep_mem, keep_all, keep_none, keep_cong, keep_comm, keep_implied, keep_map}
use Rattle.boxes.proofs.Choices.{mem_choices, lows_inside, highs_inside, choices_first, inside_at, inside_set}
use Rattle.boxes.proofs.Extremes.{least_is, greatest_is}
use Rattle.boxes.proofs.Bisect.{bisect_turns}
use Rattle.boxes.proofs.Cut.{choices_below, choices_above, inside_below, inside_above, in_range, proper_below}

-- the hull of choices of a box that hold both its corners is the box

inside_tail : (v : Interval) (b : Box) (c : Choice) → Inside c (v ∷ b) → Inside (tail c) b
inside_tail v b [] h = absurd h
inside_tail v b (x ∷ c) h = h.2

hull_is : (b : Box) (l : List Choice) → ((c : Choice) → c ∈ l → Inside c b) → lows b ∈ l → highs b ∈ l → hull (length b) l ≡ b
unfolding hull
hull_is [] l h lo hi = refl
hull_is (v ∷ b) l h lo hi =
    ap₂ (λ (w : Interval) (r : Box). w ∷ r)
    (ap₂ (λ (x y : ℕ). x ⋯ y) (least_is xs (Memᴰ.map first lo) (λ x m. (bounds x m).0))
    (greatest_is xs (Memᴰ.map first hi) (λ x m. (bounds x m).1)))
    (hull_is b (map tail l) rest (Memᴰ.map tail lo) (Memᴰ.map tail hi))
  where
    first : Choice → ℕ
    first c = at c 0

    xs : List ℕ
    xs = map first l

    bounds : (x : ℕ) → x ∈ xs → (v.low ≤ x) × (x ≤ v.high)
    bounds x m = let (c, n, e) = Memᴰ.of_map first l m in rw e at (inside_at (v ∷ b) c (h c n) 0)

    rest : (c : Choice) → c ∈ map tail l → Inside c b
    rest c m = let (d, n, e) = Memᴰ.of_map tail l m in rw e at (inside_tail v b d (h d n))

hull_choices : (b : Box) → Proper b → hull (length b) (choices b) ≡ b
hull_choices b p =
    hull_is b (choices b) (λ c m. (mem_choices b c).0 m) ((mem_choices b (lows b)).1 (lows_inside b p))
    ((mem_choices b (highs b)).1 (highs_inside b p))

-- the classes of a list: the first, and then those of the elements of another class

pub classes_mem : {x : ℕ} (l : List ℕ) → x ∈ classes l → x ∈ l
unfolding classes
classes_mem [] m = m
classes_mem (y ∷ l) m =
    ⊎_elim (λ e. here e) (λ n. there (classes_mem l (keep_mem (λ z. not (eqb z y)) (classes l) n).0)) (Memᴰ.cases_cons m)

classes_keep : (p : ℕ → Bool) (l : List ℕ) → keep p (classes l) ≡ classes (keep p l)
unfolding classes keep
classes_keep p [] = refl
classes_keep p (x ∷ l) =
    let q : ℕ → Bool = λ y. not (eqb y x) in
    by_test (p x)
    (λ e. rw e (ap (λ (r : List ℕ). x ∷ r) (keep_comm p q (classes l) ∙ ap (λ (r : List ℕ). keep q r) (classes_keep p l))))
    (λ e. rw e (keep_implied p q (classes l) (λ y m t. ap not (ne_eqb y x (λ d. true≢false (sym t ∙ ap p d ∙ e)))) ∙ classes_keep p l))

classes_first : (x : ℕ) (l : List ℕ) → classes (x ∷ l) ≡ x ∷ classes (keep (λ y. not (eqb y x)) (x ∷ l))
unfolding classes keep
classes_first x l = rw (eq-eqb x x refl) (ap (λ (r : List ℕ). x ∷ r) (classes_keep (λ y. not (eqb y x)) l))

classes_choices : (k : Choice → ℕ) (b : Box) → Proper b
    → classes (map k (choices b)) ≡ k (lows b) ∷ classes (map k (keep (λ c. not (eqb (k c) (k (lows b)))) (choices b)))
classes_choices k b p =
    let (r, q) = choices_first b p in
    let x = k (lows b) in
    rw q (classes_first x (map k r) ∙ ap (λ (l : List ℕ). x ∷ classes l) (keep_map (λ y. not (eqb y x)) k (lows b ∷ r)))

-- one class: one piece, the box

pub pieces_one : (k : Choice → ℕ) (b : Box) → Proper b → ((c : Choice) → Inside c b → k c ≡ k (lows b)) → pieces k b ≡ b ∷ []
unfolding pieces piece classes
pieces_one k b p h =
    let x = k (lows b) in
    let t : (c : Choice) → c ∈ choices b → eqb (k c) x ≡ true = λ c m. eq-eqb (k c) x (h c ((mem_choices b c).0 m)) in
    rw (classes_choices k b p, keep_none (λ c. not (eqb (k c) x)) (choices b) (λ c m. ap not (t c m)))
    (ap (λ (w : Box). w ∷ []) (rw (keep_all (λ c. eqb (k c) x) (choices b) t) (hull_choices b p)))

pub convex_corner : {k : Choice → ℕ} {i : ℕ} (b : Box) → Proper b → Convex b i k → k (lows b) ≡ k (highs b)
    → (c : Choice) → Inside c b → k c ≡ k (lows b)
convex_corner {i = i} b p x e c j =
    let a = inside_at b c j i in
    x (lows b) c (highs b) (lows_inside b p) j (highs_inside b p) a.0 a.1 e

-- the lowest choice with another value of input i
lifted : (b : Box) (i : ℕ) → Proper b → at (lows b) i < at (highs b) i → (y : ℕ) → at (lows b) i ≤ y → y ≤ at (highs b) i
    → Inside (set (lows b) i y) b × (at (set (lows b) i y) i ≡ y)
lifted b i p r y l h = (inside_set b (lows b) i y (lows_inside b p) l h, get_or-set_same (lows b) i y 0 (rw length-map (in_range b i r)))

-- at an edge: the half below it is the first piece, and the half above it has the others

module _ {k : Choice → ℕ} {b : Box} {i m : ℕ} (p : Proper b) (x : Convex b i k) (e : Edge k b i m) where
  -- the choices up to the edge are those of the lowest choice's class
  pub edge_test : (c : Choice) → Inside c b → eqb (k c) (k (lows b)) ≡ leb (at c i) m
  edge_test c h =
      let o = lows_inside b p in
      let a = inside_at b c h i in
      by_test (leb (at c i) m)
      (λ t.
      let l = leb-true (at c i) m t in
      let (j, q) = lifted b i p (omega arith) m (omega arith) (omega arith) in
      eq-eqb (k c) (k (lows b)) (x (lows b) c (set (lows b) i m) o h j a.0 (omega arith) (sym e.class)) ∙ sym t)
      (λ t.
      let l = leb-false (at c i) m t in
      let (j, q) = lifted b i p (omega arith) (suc m) (omega arith) (omega arith) in
      ne_eqb (k c) (k (lows b)) (λ r. e.next (x (lows b) (set (lows b) i (suc m)) c o j h (omega arith) (omega arith) (sym r))) ∙ sym t)

  pub class_below : (c : Choice) → Inside c (below b i m) → k c ≡ k (lows b)
  class_below c j =
      let (n, l) = (inside_below e.splits c).0 j in
      eqb-true (k c) (k (lows b)) (edge_test c n ∙ le-leb (at c i) m l)

  pub class_above : (c : Choice) → Inside c (above b i m) → k c ≢ k (lows b)
  class_above c j =
      let (n, l) = (inside_above e.splits c).0 j in
      eqb-false (k c) (k (lows b)) (edge_test c n ∙ lt-leb (at c i) m l)

  classes_cut : classes (map k (choices b)) ≡ k (lows b) ∷ classes (map k (choices (above b i m)))
  classes_cut =
      let t = keep_cong (λ c. not (eqb (k c) (k (lows b)))) (λ c. not (leb (at c i) m)) (choices b) (λ c n.
      ap not (edge_test c ((mem_choices b c).0 n))) in
      classes_choices k b p ∙ ap (λ (l : List Choice). k (lows b) ∷ classes (map k l)) (t ∙ choices_above e.splits)

  first_piece : piece k b (k (lows b)) ≡ below b i m
  unfolding piece
  first_piece =
      let t = keep_cong (λ c. eqb (k c) (k (lows b))) (λ c. leb (at c i) m) (choices b) (λ c n. edge_test c ((mem_choices b c).0 n)) in
      rw (t, choices_below e.splits) (rw length-set at (hull_choices (below b i m) (proper_below e.splits p)))

  other_piece : (v : ℕ) → v ∈ classes (map k (choices (above b i m))) → piece k b v ≡ piece k (above b i m) v
  unfolding piece
  other_piece v n =
      let (d, r, q) = Memᴰ.of_map k (choices (above b i m)) (classes_mem (map k (choices (above b i m))) n) in
      let a = class_above d ((mem_choices (above b i m) d).0 r) in
      let t = keep_implied (λ c. eqb (k c) v) (λ c. not (leb (at c i) m)) (choices b) (λ c s t.
      ap not (sym (edge_test c ((mem_choices b c).0 s)) ∙ ne_eqb (k c) (k (lows b)) (λ z. a (q ∙ sym (eqb-true (k c) v t) ∙ z)))) in
      rw (length-set, ← choices_above e.splits, t)

  pub pieces_cut : pieces k b ≡ below b i m ∷ pieces k (above b i m)
  unfolding pieces
  pieces_cut =
      rw classes_cut
      (ap₂ (λ (w : Box) (l : List Box). w ∷ l) first_piece
      (map_cong (piece k b) (piece k (above b i m)) (classes (map k (choices (above b i m)))) other_piece))

-- the edge: there is one where the corners differ in class, and bisection finds it

le_pow : (n : ℕ) → n ≤ 2 ^ n
le_pow zero = omega arith
le_pow (suc n) = omega (arith, le_pow n, pow_pos n)

module _ {k : Choice → ℕ} {i : ℕ} (b : Box) (p : Proper b) (x : Convex b i k) where
  pub edge_is : (n : ℕ) → at (highs b) i ≤ at (lows b) i + 2 ^ n → k (lows b) ≢ k (highs b) → Edge k b i (edge n k b i)
  unfolding edge
  edge_is n w d =
      let o = lows_inside b p in
      let s = highs_inside b p in
      let r : at (lows b) i < at (highs b) i = elim (dec_lt (at (lows b) i) (at (highs b) i)) [
        | yes h ↦ h
        | no h ↦ absurd (d (sym (x (lows b) (highs b) (lows b) o s o (inside_at b (highs b) s i).0 (omega arith) refl)))
      ] in
      let top = set (lows b) i (at (highs b) i) in
      let (j, q) = lifted b i p r (at (highs b) i) (omega arith) (omega arith) in
      let t = bisect_turns n (λ y. eqb (k (set (lows b) i y)) (k (lows b))) (at (lows b) i) (at (highs b) i) (omega arith) w
      (eq-eqb (k (set (lows b) i (at (lows b) i))) (k (lows b)) (ap k (set-get_or (lows b) i 0)))
      (ne_eqb (k top) (k (lows b)) (λ e. d (sym (x (lows b) (highs b) top o s j (omega arith) (omega arith) (sym e))))) in
      record {
        splits = record { lowest = t.from_lo; highest = t.below_hi };
        class = eqb-true _ _ t.true_at;
        next = eqb-false _ _ t.false_next;
      }

  pub edge_exists : k (lows b) ≢ k (highs b) → (m : ℕ) × Edge k b i m
  edge_exists d = let n = at (highs b) i in (edge n k b i, edge_is n (omega (arith, le_pow n)) d)
