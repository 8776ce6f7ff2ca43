-- Boxes that divide a box: within it, each of its choices in one of them, no choice in two. One of them may be divided in turn.
-- Assumes nothing.
use mathlib.Core.Path.{◌≡◌, refl}
use mathlib.Core.Logic.{◌⊎◌, inl, inr, ⊎_elim}
use mathlib.Core.List.Memᴰ
use mathlib.Core.List.{List, [], ◌∷◌, ◌++◌}
use mathlib.Core.List.Memᴰ.{head as here}
use mathlib.Core.List.Memᴰ.{tail as there}
use Prim.Native.Nat.{ℕ}
use native.Mathlib.Omega.{arith}
use Rattle.boxes.specs.Boxes.{Choice, Box, Inside, Within, ◌∈◌}
use Rattle.boxes.proofs.Places.{Pairwise, pairwise_split}
use Rattle.boxes.proofs.Choices.{inside_at}
use Rattle.boxes.proofs.Partition.{Rising, Partition}

abbrev pub Disjoint : Box → Box → Type 0
Disjoint q r = (c : Choice) → Inside c q → Inside c r → ⊥

pub record Divides (b : Box) (qs : List Box) : Type 0 where
  pub within : (q : Box) → q ∈ qs → Within q b
  pub cover : (c : Choice) → Inside c b → (q : Box) × (q ∈ qs) × Inside c q
  pub apart : Pairwise Disjoint qs

pub one_divides : (b : Box) → Divides b (b ∷ [])
one_divides b =
    record {
      within = λ q m c i. rw (Memᴰ.eq_of_singleton m) at i;
      cover = λ c i. (b, here refl, i);
      apart = (λ r m. absurd (Memᴰ.not-nil m), tt);
    }

-- one of the boxes divided in turn
module _ (b a : Box) (xs qs ys : List Box) (d : Divides b (xs ++ (a ∷ ys))) (e : Divides a qs) where
  -- a box of the new list: of the old one, or of those that divide a
  placed : {q : Box} → q ∈ xs ++ (qs ++ ys) → (q ∈ xs) ⊎ (q ∈ qs) ⊎ (q ∈ ys)
  placed m = ⊎_elim (λ n. inl n) (λ n. inr (Memᴰ.append_cases qs n)) (Memᴰ.append_cases xs m)

  old : {q : Box} → q ∈ xs ++ (a ∷ ys) → (q ∈ xs) ⊎ (q ≡ a) ⊎ (q ∈ ys)
  old m = ⊎_elim (λ n. inl n) (λ n. inr (Memᴰ.cases_cons n)) (Memᴰ.append_cases xs m)

  pub divides_split : Divides b (xs ++ (qs ++ ys))
  divides_split =
      record {
        within = λ s m. ⊎_elim (λ n. d.within s (Memᴰ.append_left _ n))
            (⊎_elim
            (λ n c i. d.within a (Memᴰ.append_right xs (here refl)) c (e.within s n c i))
            (λ n. d.within s (Memᴰ.append_right xs (there n))))
            (placed m);
        cover = λ c i.
            let (s, m, k) = d.cover c i in
            ⊎_elim (λ n. (s, Memᴰ.append_left _ n, k))
            (⊎_elim (λ z. let (t, n, l) = e.cover c (rw z at k) in (t, Memᴰ.append_right xs (Memᴰ.append_left ys n), l))
            (λ n. (s, Memᴰ.append_right xs (Memᴰ.append_right qs n), k)))
            (old m);
        apart = pairwise_split Disjoint xs qs ys d.apart e.apart
            (λ x q m h c i k. h c i (e.within q m c k))
            (λ q y m h c i k. h c (e.within q m c i) k);
      }

rising_apart : (i : ℕ) (qs : List Box) → Rising i qs → Pairwise Disjoint qs
rising_apart i [] h = tt
rising_apart i (q ∷ qs) h = (λ r m c a b. omega (arith, h.0 r m, inside_at q c a i, inside_at r c b i), rising_apart i qs h.1)

pub partition_divides : {k : Choice → ℕ} {i : ℕ} {b : Box} {qs : List Box} → Partition k i b qs → Divides b qs
partition_divides {i = i} {qs = qs} p = record { within = p.within; cover = p.cover; apart = rising_apart i qs p.rising }
