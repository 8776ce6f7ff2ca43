-- Lists by places: the place of an element, parts of a list, elements written, and a relation between any two elements.
-- Assumes nothing.
use mathlib.Core.Path.{◌≡◌, refl, ◌∙◌}
use mathlib.Core.Bool.{cond, ◌&&◌}
use mathlib.Core.Logic.{⊎_elim}
use mathlib.Core.List.Memᴰ
use mathlib.Core.List.{List, [], ◌∷◌, ◌++◌, append-nil, map}
use mathlib.Core.List.Memᴰ.{head as here}
use mathlib.Core.List.Memᴰ.{tail as there}
use mathlib.Core.Option.{some}
use Prim.Native.Nat.{ℕ, zero, suc, ◌+◌, ◌≤◌, ◌<◌}
use native.Mathlib.Nat.{add-zero, add-suc, suc-add}
use native.Mathlib.Omega.{arith}
use native.Mathlib.Decide.{ℕ_discrete, dec_lt, dec_le}
use lib.Dec.{eqb, ltb}
use lib.ListN.{length, get_or, set, take, drop, get_elem?, length-set, take-append-drop}
use lib.Seq.{sets, set_out, get_or-set_same, get_or-set_other, take_all, length-take-le, drop-length}
use borrow.Author.Tests.{eq-eqb, ne_eqb, lt-ltb, le-ltb}
use Rattle.boxes.specs.Boxes.{◌∈◌}

module _ {A : Type 0} where
  pub nonempty : {x : A} (l : List A) → x ∈ l → 0 < length l
  nonempty [] m = absurd (Memᴰ.not-nil m)
  nonempty (y ∷ l) m = omega arith

  pub mem_place : {x : A} {l : List A} → x ∈ l → (n : ℕ) × (get_elem? l n ≡ some x)
  mem_place (here e) = (0, cc)
  mem_place (there m) = let (n, e) = mem_place m in (suc n, e)

  pub place_mem : {x : A} (l : List A) (n : ℕ) → get_elem? l n ≡ some x → x ∈ l
  place_mem [] n e = let z : ◌≡◌ {A = ℕ} 0 1 = cc in absurd (omega arith)
  place_mem {x} (y ∷ l) zero e = let z : x ≡ y = cc in here z
  place_mem (y ∷ l) (suc n) e = there (place_mem l n e)

  pub place_exists : (l : List A) (i : ℕ) → i < length l → (x : A) × (get_elem? l i ≡ some x)
  place_exists [] i h = absurd (omega arith)
  place_exists (x ∷ l) zero h = (x, refl)
  place_exists (x ∷ l) (suc i) h = place_exists l i (omega arith)

  pub place_below : {x : A} (l : List A) (n : ℕ) → get_elem? l n ≡ some x → n < length l
  place_below [] n e = let z : ◌≡◌ {A = ℕ} 0 1 = cc in absurd (omega arith)
  place_below (y ∷ l) zero e = omega arith
  place_below (y ∷ l) (suc n) e = omega (arith, place_below l n e)

  pub place_take : {x : A} (k : ℕ) (l : List A) (i : ℕ) → get_elem? (take k l) i ≡ some x → get_elem? l i ≡ some x
  place_take zero l i e = let z : ◌≡◌ {A = ℕ} 0 1 = cc in absurd (omega arith)
  place_take (suc k) [] i e = e
  place_take (suc k) (y ∷ l) zero e = e
  place_take (suc k) (y ∷ l) (suc i) e = place_take k l i e

  pub place_drop : {x : A} (n : ℕ) (l : List A) (i : ℕ) → get_elem? (drop n l) i ≡ some x → get_elem? l (n + i) ≡ some x
  place_drop zero l i e = let z : 0 + i ≡ i = omega arith in rw z e
  place_drop (suc n) [] i e = e
  place_drop (suc n) (y ∷ l) i e = let z : suc n + i ≡ suc (n + i) = omega arith in rw z (place_drop n l i e)

  -- a part of a list
  pub part_mem : {x : A} (k n : ℕ) (l : List A) → x ∈ take k (drop n l) → x ∈ l
  part_mem {x} k n l m =
      let a : x ∈ drop n l = rw (take-append-drop k (drop n l)) at (Memᴰ.append_left (drop k (drop n l)) m) in
      rw (take-append-drop n l) at (Memᴰ.append_right (take n l) a)

  pub take_rest : (k : ℕ) (l : List A) → take k l ++ drop (length (take k l)) l ≡ l
  take_rest k l = elim (dec_le k (length l)) [
    | yes h ↦ rw (length-take-le k l h) (take-append-drop k l)
    | no h ↦ (let a : length l ≤ k = omega arith in rw (take_all k l a, drop-length l) (append-nil l))
  ]

-- an element after another one was written
pub get_d_set : {n : ℕ} (l : List ℕ) (q v k : ℕ) → length l ≡ n → get_or (set l q v) k 0 ≡ cond (eqb k q && ltb q n) v (get_or l k 0)
get_d_set {n} l q v k e =
    elim (ℕ_discrete k q) [
      | yes d ↦ elim (dec_lt q n) [
        | yes h ↦ rw (d, eq-eqb q q refl, lt-ltb q n h) (get_or-set_same l q v 0 (omega arith))
        | no h ↦ rw (d, eq-eqb q q refl, le-ltb q n (omega arith), set_out l q v (omega arith))
      ]
      | no d ↦ rw (ne_eqb k q d) (get_or-set_other l q k v 0 d)
    ]

-- a run of words written

pub sets_before : (vs l : List ℕ) (i k : ℕ) → k < i → get_or (sets l i vs) k 0 ≡ get_or l k 0
sets_before [] l i k h = refl
sets_before (v ∷ vs) l i k h = sets_before vs (set l i v) (suc i) k (omega arith) ∙ get_or-set_other l i k v 0 (omega arith)

pub sets_at : (vs l : List ℕ) (i k : ℕ) → k < length vs → i + length vs ≤ length l → get_or (sets l i vs) (i + k) 0 ≡ get_or vs k 0
sets_at [] l i k h r = absurd (omega arith)
sets_at (v ∷ vs) l i zero h r =
    rw add-zero (sets_before vs (set l i v) (suc i) i (omega arith) ∙ get_or-set_same l i v 0 (omega arith))
sets_at (v ∷ vs) l i (suc k) h r =
    rw (add-suc, ← suc-add) (sets_at vs (set l i v) (suc i) k (omega arith) (rw length-set (omega arith)))

-- R holds of any two elements, the earlier one first
module _ {A : Type 0} (R : A → A → Type 0) where
  abbrev pub Pairwise : List A → Type 0
  Pairwise [] = Unit {0}
  Pairwise (x ∷ l) = ((y : A) → y ∈ l → R x y) × Pairwise l

  pub pairwise_at : (l : List A) → Pairwise l → (m n : ℕ) (p q : A) → get_elem? l m ≡ some p → get_elem? l n ≡ some q → m < n → R p q
  pairwise_at [] h m n p q d e k = let z : ◌≡◌ {A = ℕ} 0 1 = cc in absurd (omega arith)
  pairwise_at (x ∷ l) h m zero p q d e k = absurd (omega arith)
  pairwise_at (x ∷ l) h zero (suc n) p q d e k = let z : p ≡ x = cc in rw z (h.0 q (place_mem l n e))
  pairwise_at (x ∷ l) h (suc m) (suc n) p q d e k = pairwise_at l h.1 m n p q d e (omega arith)

  pub pairwise_append : (qs ys : List A) → Pairwise qs → Pairwise ys → ((q y : A) → q ∈ qs → y ∈ ys → R q y) → Pairwise (qs ++ ys)
  pairwise_append [] ys h k r = k
  pairwise_append (q ∷ qs) ys h k r = (
    λ y m. ⊎_elim (h.0 y) (r q y (here refl)) (Memᴰ.append_cases qs m),
    pairwise_append qs ys h.1 k (λ p y m. r p y (there m)),
  )

  -- one element replaced by a list
  pub pairwise_split : (xs : List A) {a : A} (qs ys : List A) → Pairwise (xs ++ (a ∷ ys)) → Pairwise qs
      → ((x q : A) → q ∈ qs → R x a → R x q) → ((q y : A) → q ∈ qs → R a y → R q y) → Pairwise (xs ++ (qs ++ ys))
  pairwise_split [] qs ys h k l r = pairwise_append qs ys k h.1 (λ q y m n. r q y m (h.0 y n))
  pairwise_split (x ∷ xs) {a} qs ys h k l r = (
    λ y m. ⊎_elim (λ n. h.0 y (Memᴰ.append_left _ n))
        (λ n. ⊎_elim
        (λ o. l x y o (h.0 a (Memᴰ.append_right xs (here refl))))
        (λ o. h.0 y (Memᴰ.append_right xs (there o)))
        (Memᴰ.append_cases qs n))
        (Memᴰ.append_cases xs m),
    pairwise_split xs qs ys h.1 k l r,
  )

pub pairwise_map : {A B : Type 0} (f : A → B) (R : B → B → Type 0) (l : List A) → Pairwise R (map f l)
    → Pairwise (λ (p q : A). R (f p) (f q)) l
pairwise_map f R [] h = tt
pairwise_map f R (p ∷ l) h = (λ q m. h.0 (f q) (Memᴰ.map f m), pairwise_map f R l h.1)
