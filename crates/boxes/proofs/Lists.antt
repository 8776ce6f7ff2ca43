-- Laws of lists: membership, `map`, `flat_map`, numbers in a row, `keep`.
-- Assumes nothing.
use mathlib.Core.Path.{◌≡◌, refl, sym, ap, ◌∙◌}
use mathlib.Core.Logic.{⊎_elim}
use mathlib.Core.Bool.{Bool, true, false, not, cond, and-eq-true_iff}
use mathlib.Core.List.{List, [], ◌∷◌, ◌++◌, append-nil, map, flat_map}
use mathlib.Core.List.Memᴰ
use mathlib.Core.List.Memᴰ.{head as here}
use mathlib.Core.List.Memᴰ.{tail as there}
use Prim.Native.Nat.{ℕ, zero, suc, ◌+◌, ◌<◌}
use native.Mathlib.Nat.{add-zero, add-suc, suc-add}
use native.Mathlib.Omega.{arith}
use lib.ListN.{length, get_or, set}
use Rattle.boxes.specs.Boxes.{from, every, keep, ◌∈◌}

-- cases on a test, with the equation
pub by_test : {C : Type 0} (t : Bool) → (t ≡ true → C) → (t ≡ false → C) → C
by_test true f g = f refl
by_test false f g = g refl

-- a test has one answer
pub not_both : {A : Type 0} {b : Bool} → b ≡ false → b ≡ true → A
not_both f t = let u : ◌≡◌ {A = ℕ} 0 1 = cc in absurd (omega arith)

module _ {A B : Type 0} where
  pub map_cong : (f g : A → B) (l : List A) → ((x : A) → x ∈ l → f x ≡ g x) → map f l ≡ map g l
  map_cong f g [] h = refl
  map_cong f g (x ∷ l) h = cc (h x (here refl), map_cong f g l (λ y m. h y (there m)))

  pub map_eq : (f g : A → B) (l : List A) → map f l ≡ map g l → (x : A) → x ∈ l → f x ≡ g x
  map_eq f g [] e x m = absurd (Memᴰ.not-nil m)
  map_eq f g (y ∷ l) e x m = ⊎_elim (λ d. cc) (λ n. map_eq f g l (cc) x n) (Memᴰ.cases_cons m)

  pub map_set : (f : A → B) (l : List A) (i : ℕ) (a : A) → map f (set l i a) ≡ set (map f l) i (f a)
  map_set f [] i a = refl
  map_set f (x ∷ l) zero a = refl
  map_set f (x ∷ l) (suc i) a = ap (λ (r : List B). f x ∷ r) (map_set f l i a)

  pub mem_flat_map : (g : A → List B) {x : A} {y : B} {l : List A} → x ∈ l → y ∈ g x → y ∈ flat_map g l
  unfolding flat_map
  mem_flat_map g (here {xs = l} e) m = Memᴰ.append_left (flat_map g l) (rw e at m)
  mem_flat_map g (there {x = z} n) m = Memᴰ.append_right (g z) (mem_flat_map g n m)

  pub flat_map_mem : (g : A → List B) {y : B} (l : List A) → y ∈ flat_map g l → (x : A) × (x ∈ l) × (y ∈ g x)
  unfolding flat_map
  flat_map_mem g [] m = absurd (Memᴰ.not-nil m)
  flat_map_mem g (x ∷ l) m =
      ⊎_elim (λ n. (x, here refl, n)) (λ n. let (z, o, k) = flat_map_mem g l n in (z, there o, k)) (Memᴰ.append_cases (g x) m)

-- numbers in a row

pub length_from : (n a : ℕ) → length (from a n) ≡ n
unfolding from
length_from zero a = refl
length_from (suc n) a = ap suc (length_from n (suc a))

pub from_at : {A : Type 0} (f : ℕ → A) (d : A) (n a i : ℕ) → i < n → get_or (map f (from a n)) i d ≡ f (a + i)
unfolding from
from_at f d zero a i l = absurd (omega arith)
from_at f d (suc n) a zero l = rw add-zero
from_at f d (suc n) a (suc i) l = rw (add-suc, ← suc-add) (from_at f d n (suc a) i (omega arith))

-- a test of every element, and the elements that pass a test

module _ {A : Type 0} (p : A → Bool) where
  pub every_mem : (l : List A) → every p l ≡ true → {x : A} → x ∈ l → p x ≡ true
  unfolding every
  every_mem [] e m = absurd (Memᴰ.not-nil m)
  every_mem (y ∷ l) e m =
      let (a, r) = (and-eq-true_iff (p y) (every p l)).0 e in
      ⊎_elim (λ q. ap p q ∙ a) (λ n. every_mem l r n) (Memᴰ.cases_cons m)

  pub mem_every : (l : List A) → ((x : A) → x ∈ l → p x ≡ true) → every p l ≡ true
  unfolding every
  mem_every [] h = refl
  mem_every (x ∷ l) h = cc (h x (here refl), mem_every l (λ y m. h y (there m)))

  pub keep_mem : {x : A} (l : List A) → x ∈ keep p l → (x ∈ l) × (p x ≡ true)
  unfolding keep
  keep_mem [] m = absurd (Memᴰ.not-nil m)
  keep_mem {x} (y ∷ l) m = step (p y) refl (keep_mem l) m
    where
      step : (t : Bool) → p y ≡ t → (x ∈ keep p l → (x ∈ l) × (p x ≡ true)) → x ∈ cond t (y ∷ keep p l) (keep p l)
          → (x ∈ y ∷ l) × (p x ≡ true)
      step true e ih n = ⊎_elim (λ q. (here q, ap p q ∙ e)) (λ o. (there (ih o).0, (ih o).1)) (Memᴰ.cases_cons n)
      step false e ih n = (there (ih n).0, (ih n).1)

  pub mem_keep : {x : A} {l : List A} → x ∈ l → p x ≡ true → x ∈ keep p l
  unfolding keep
  mem_keep (here e) t = rw (sym (ap p e) ∙ t) (here e)
  mem_keep (there {x = y} m) t = let n = mem_keep m t in by_test (p y) (λ e. rw e (there n)) (λ e. rw e n)

  pub keep_all : (l : List A) → ((x : A) → x ∈ l → p x ≡ true) → keep p l ≡ l
  unfolding keep
  keep_all [] h = refl
  keep_all (x ∷ l) h = cc (h x (here refl), keep_all l (λ y m. h y (there m)))

  pub keep_none : (l : List A) → ((x : A) → x ∈ l → p x ≡ false) → keep p l ≡ []
  unfolding keep
  keep_none [] h = refl
  keep_none (x ∷ l) h = cc (h x (here refl), keep_none l (λ y m. h y (there m)))

  pub keep_cong : (q : A → Bool) (l : List A) → ((x : A) → x ∈ l → p x ≡ q x) → keep p l ≡ keep q l
  unfolding keep
  keep_cong q [] h = refl
  keep_cong q (x ∷ l) h = cc (h x (here refl), keep_cong q l (λ y m. h y (there m)))

  pub keep_comm : (q : A → Bool) (l : List A) → keep p (keep q l) ≡ keep q (keep p l)
  unfolding keep
  keep_comm q [] = refl
  keep_comm q (x ∷ l) =
      let ih = keep_comm q l in
      by_test (q x) (λ e. by_test (p x) (λ f. cc) (λ f. cc)) (λ e. by_test (p x) (λ f. cc) (λ f. cc))

  -- a second test that the first one implies
  pub keep_implied : (q : A → Bool) (l : List A) → ((x : A) → x ∈ l → p x ≡ true → q x ≡ true) → keep p (keep q l) ≡ keep p l
  unfolding keep
  keep_implied q [] h = refl
  keep_implied q (x ∷ l) h =
      let ih = keep_implied q l (λ y m. h y (there m)) in
      by_test (p x) (λ f. let e = h x (here refl) f in cc) (λ f. by_test (q x) (λ e. cc) (λ e. cc))

  pub keep_append : (s t : List A) → keep p (s ++ t) ≡ keep p s ++ keep p t
  unfolding keep
  keep_append [] t = refl
  keep_append (x ∷ s) t = let ih = keep_append s t in by_test (p x) (λ e. cc) (λ e. cc)

  pub keep_map : {B : Type 0} (f : B → A) (l : List B) → keep p (map f l) ≡ map f (keep (λ x. p (f x)) l)
  unfolding keep
  keep_map f [] = refl
  keep_map f (x ∷ l) = let ih = keep_map f l in by_test (p (f x)) (λ e. cc) (λ e. cc)

  pub keep_flat_map : {B : Type 0} (g : B → List A) (l : List B) → keep p (flat_map g l) ≡ flat_map (λ x. keep p (g x)) l
  unfolding keep flat_map
  keep_flat_map g [] = refl
  keep_flat_map g (x ∷ l) = keep_append (g x) (flat_map g l) ∙ ap (λ (r : List A). keep p (g x) ++ r) (keep_flat_map g l)

  pub keep_length : (l : List A) → length (keep p l) + length (keep (λ x. not (p x)) l) ≡ length l
  unfolding keep
  keep_length [] = refl
  keep_length (x ∷ l) = let ih = keep_length l in by_test (p x) (λ e. rw e (omega arith)) (λ e. rw e (omega arith))

-- a list whose first part passes the test and whose second part fails it
pub keep_split : {A : Type 0} (p : A → Bool) (s t : List A) → ((x : A) → x ∈ s → p x ≡ true) → ((x : A) → x ∈ t → p x ≡ false)
    → (keep p (s ++ t) ≡ s) × (keep (λ x. not (p x)) (s ++ t) ≡ t)
keep_split {A} p s t h g = (
  rw (keep_append p s t, keep_all p s h, keep_none p t g, append-nil s),
  rw (keep_append q s t) (rw (keep_none q s (λ x m. ap not (h x m)), keep_all q t (λ x m. ap not (g x m)))),
)
  where
    q : A → Bool
    q x = not (p x)
