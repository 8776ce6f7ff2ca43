-- Texts written one behind the other, and what a whole text leaves of a slice.
-- Assumes nothing.
use mathlib.Core.Path.{◌≡◌, refl, sym, ap, ◌∙◌}
use mathlib.Core.List.{List, [], ◌∷◌, ◌++◌, map, flat_map}
use Prim.Native.Nat.{ℕ, suc, ◌+◌, ◌-◌, ◌<◌, ◌≤◌, min}
use native.Mathlib.Nat.{add-zero}
use native.Mathlib.Omega.{arith}
use native.Mathlib.Numerals.{add-one}
use borrow.Author.Tests.{lt-ltb, le-ltb, ltb-true, ltb-false}
use lib.Dec.{ltb}
use borrow.Rule.Slice.PartMut.{put_mid}
use lib.ListN.{length, set, take, drop, length-set, take-append-drop, drop_of_length-le}
use Rattle.std.proofs.Common.{drop-drop}
use lib.Seq.{take_all, take-nil, take-suc-set, drop-set-lt, append_snoc}
use Rattle.std.proofs.lemmas.List.{take_min}
use Rattle.boxes.specs.Boxes.{from}
use Rattle.boxes.proofs.Lists.{by_test}
use Rattle.printing.specs.Output.{fitted, fitting}
use Rattle.printing.specs.Working.Writing.{Output, output, push, write}

pub push_fits : (l : List ℕ) (at b : ℕ) → at < length l → output (set l at b) (at + 1) ≡ push (output l at) b
unfolding push
push_fits l at b h = rw (lt-ltb at (length l) h)

pub push_full : (l : List ℕ) (at b : ℕ) → length l ≤ at → output l at ≡ push (output l at) b
unfolding push
push_full l at b h = rw (le-ltb at (length l) h)

pub write_append : (s : Output) (xs ys : List ℕ) → write s (xs ++ ys) ≡ write (write s xs) ys
unfolding write
write_append s [] ys = refl
write_append s (x ∷ xs) ys = write_append (push s x) xs ys

pub write_one : (s : Output) (b : ℕ) → write s (b ∷ []) ≡ push s b
unfolding write
write_one s b = refl

-- one text, and then another
pub then : (s : Output) {t u : Output} (xs ys : List ℕ) → t ≡ write s xs → u ≡ write t ys → u ≡ write s (xs ++ ys)
then s xs ys e f = rw (write_append s xs ys, ← e) f

-- the texts of a list's elements, by what the elements are made of
pub flat_map_lem : {A B C : Type 0} (f : B → List C) (g : A → B) (l : List A) → flat_map f (map g l) ≡ flat_map (λ (x : A). f (g x)) l
unfolding flat_map
flat_map_lem f g [] = refl
flat_map_lem f g (x ∷ l) = rw (flat_map_lem f g l)

-- a text part by part
module _ (f : ℕ → List ℕ) (s : Output) (n i : ℕ) where
  pub part_turn : {t : Output} → i < n → t ≡ write s (f i) → write t (flat_map f (from (i + 1) (n - (i + 1)))) ≡ write s (flat_map f (from i (n - i)))
  unfolding flat_map from
  part_turn h e =
      let more : n - i ≡ suc (n - (i + 1)) = omega arith in
      rw (more, add-one i, write_append s (f i) (flat_map f (from (suc i) (n - (suc i)))), ← e)

  pub part_done : n ≤ i → s ≡ write s (flat_map f (from i (n - i)))
  unfolding flat_map from write
  part_done h = let z : n - i ≡ 0 = omega arith in rw z

-- what a text leaves, from a place on
abbrev left : List ℕ → ℕ → List ℕ → Output
left l at xs = output (take at l ++ (take (length l - at) xs ++ drop (at + length xs) l)) (min (at + length xs) (length l))

left_fits : (l : List ℕ) (at x : ℕ) (xs : List ℕ) → at < length l → left (set l at x) (at + 1) xs ≡ left l at (x ∷ xs)
left_fits l at x xs i =
    let m : length l - at ≡ suc (length l - suc at) = omega arith in
    let n : at + suc (length xs) ≡ suc at + length xs = omega arith in
    rw (add-one at, length-set, take-suc-set l at x i, drop-set-lt (suc at + length xs) l at x (omega arith), m, n, append_snoc)

left_full : (l : List ℕ) (at x : ℕ) (xs : List ℕ) → length l ≤ at → left l at xs ≡ left l at (x ∷ xs)
left_full l at x xs i =
    let z : length l - at ≡ 0 = omega arith in
    let m : min (at + suc (length xs)) (length l) ≡ min (at + length xs) (length l) = omega arith in
    rw (z, m, drop_of_length-le l {i = at + suc (length xs)} (omega arith), drop_of_length-le l {i = at + length xs} (omega arith))

write_from : (l : List ℕ) (at : ℕ) (xs : List ℕ) → at ≤ length l → write (output l at) xs ≡ left l at xs
unfolding write
write_from l at [] h =
    let z : min at (length l) ≡ at = omega arith in
    rw (add-zero, take-nil, take-append-drop, z)
write_from l at (x ∷ xs) h =
    by_test (ltb at (length l))
    (λ e. let i = ltb-true at (length l) e in
    rw (← push_fits l at x i) (write_from (set l at x) (at + 1) xs (rw length-set (omega arith)) ∙ left_fits l at x xs i))
    (λ e. let i = ltb-false at (length l) e in
    rw (← push_full l at x i) (write_from l at xs h ∙ left_full l at x xs i))

-- nothing, behind the end
pub write_full : (l : List ℕ) (at : ℕ) (xs : List ℕ) → length l ≤ at → output l at ≡ write (output l at) xs
unfolding write
write_full l at [] h = refl
write_full l at (x ∷ xs) h = rw (← push_full l at x h) (write_full l at xs h)

-- as many bytes as fit, copied at once
rest_copied : (l text : List ℕ) (at n : ℕ) → at ≤ length l → n ≡ min (length text) (length l - at) → drop n (drop at l) ≡ drop (at + length text) l
rest_copied l text at n h m =
    drop-drop n at l
    ∙ by_test (ltb (length text) (length l - at))
    (λ t. let f = ltb-true (length text) (length l - at) t in let z : n ≡ length text = omega arith in ap (λ (k : ℕ). drop (at + k) l) z)
    (λ t. let f = ltb-false (length text) (length l - at) t in
    drop_of_length-le l {i = at + n} (omega arith) ∙ sym (drop_of_length-le l {i = at + length text} (omega arith)))

pub write_copied : (l text : List ℕ) (at n : ℕ) {ys : List ℕ} → at ≤ length l → n ≡ min (length text) (length l - at) → ys ≡ take n text
    → output (put_mid at (at + n - at) l ys) (at + n) ≡ write (output l at) text
write_copied l text at n h m e =
    let k : at + n - at ≡ n = omega arith in
    let u : at + n ≡ min (at + length text) (length l) = omega arith in
    let z : n ≡ min (length l - at) (length text) = omega arith in
    rw (k, e, rest_copied l text at n h m, u, z, take_min) (sym (write_from l at text h))

-- a whole text
pub write_all : (text l : List ℕ) {out : List ℕ} {n : ℕ} → output out n ≡ write (output l 0) text → (out ≡ fitted text l) × (n ≡ fitting text l)
write_all text l {out} {n} e =
    let z : length l - 0 ≡ length l = omega arith in
    let y : 0 + length text ≡ length text = omega arith in
    let f : output out n ≡ output (fitted text l) (fitting text l) = e ∙ rw (write_from l 0 text (omega arith), z, y) in
    (ap (λ (s : Output). s.bytes) f, ap (λ (s : Output). s.used) f)

-- a slice that is long enough has all of it
pub all_fits : (text l : List ℕ) → length text ≤ length l → (fitted text l ≡ text ++ drop (length text) l) × (fitting text l ≡ length text)
all_fits text l h = (rw (take_all (length l) text h), omega arith)
