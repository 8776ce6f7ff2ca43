-- Words copied one by one over a list.
-- Assumes nothing.
use mathlib.Core.Path.{◌≡◌, sym, ap, ◌∙◌}
use mathlib.Core.List.{List, ◌++◌, map}
use Prim.Native.Nat.{ℕ, suc, ◌+◌, ◌-◌, ◌<◌, ◌≤◌}
use native.Mathlib.Numerals.{add-one}
use native.Mathlib.Nat.{zero-add, add-zero, sub-zero}
use native.Mathlib.Omega.{arith}
use borrow.Author.Tests.{ltb-true, ltb-false}
use lib.Dec.{ltb}
use lib.ListN.{length, get_or, set, replicate, length-map, length-replicate, get_or-eq_default}
use lib.Seq.{sets, sets-eq, ext_get_or}
use Rattle.boxes.specs.Boxes.{from}
use Rattle.boxes.proofs.Lists.{by_test, length_from, from_at}
use Rattle.blocks.proofs.Rows.{drop_zeros}
use Rattle.jobs.specs.Working.Reading.{over}

-- `count` words, at most `most`, are copied over the old ones from a place on, by a rule
module _ (place : ℕ) (f : ℕ → ℕ) (most count : ℕ) (old : List ℕ) where
  -- what is still to be copied onto the words at hand gives the result
  abbrev pub Copying : ℕ → List ℕ → ℕ → Type 0
  Copying n ws k = (k ≤ n) × (n ≤ most) × (sets ws (place + k) (map f (from k (n - k))) ≡ sets old place (map f (from 0 count)))

  pub copy_begin : (n : ℕ) → n ≡ count → count ≤ most → Copying n old 0
  copy_begin n e h = (omega arith, omega arith, rw (e, sub-zero, add-zero))

  pub copy_turn : (n : ℕ) (ws : List ℕ) (k : ℕ) {i v : ℕ} → Copying n ws k → k < n → i ≡ place + k → v ≡ f k → Copying n (set ws i v) (k + 1)
  copy_turn n ws k {i} {v} c h at e = (omega arith, c.1, turn ∙ c.2)
    where
      turn : sets (set ws i v) (place + (k + 1)) (map f (from (k + 1) (n - (k + 1)))) ≡ sets ws (place + k) (map f (from k (n - k)))
      turn =
          unfold from in
          let m : n - k ≡ suc (n - suc k) = omega arith in
          let next : place + (k + 1) ≡ suc (place + k) = omega arith in
          rw (at, e, next, add-one k, m)

  pub copy_done : (n : ℕ) (ws : List ℕ) (k : ℕ) → Copying n ws k → n ≤ k → ws ≡ sets old place (map f (from 0 count))
  copy_done n ws k c h = done ∙ c.2
    where
      done : ws ≡ sets ws (place + k) (map f (from k (n - k)))
      done = unfold from in let z : n - k ≡ 0 = omega arith in rw z

module _ (f : ℕ → ℕ) where
  pub copied : (n : ℕ) → length (map f (from 0 n)) ≡ n
  copied n = length-map (from 0 n) f ∙ length_from n 0

  -- a list that has at each place what the rule gives
  pub copied_is : (n : ℕ) (l : List ℕ) → n ≡ length l → ((k : ℕ) → k < n → f k ≡ get_or l k 0) → map f (from 0 n) ≡ l
  copied_is n l e h =
      ext_get_or 0 (map f (from 0 n)) l (copied n ∙ e)
      (λ k i. let m : k < n = omega (arith, copied n) in from_at f 0 n 0 k m ∙ ap f (zero-add k) ∙ h k m)

  -- a rule that gives 0 from n on
  pub copied_padded : (n m : ℕ) → ((k : ℕ) → n ≤ k → k < m → f k ≡ 0) → (k : ℕ) → k < m → f k ≡ get_or (map f (from 0 n)) k 0
  copied_padded n m zeros k l =
      by_test (ltb k n)
      (λ t. sym (from_at f 0 n 0 k (ltb-true k n t) ∙ ap f (zero-add k)))
      (λ t.
      let past : n ≤ k = ltb-false k n t in
      zeros k past l ∙ sym (get_or-eq_default (map f (from 0 n)) 0 {n = k} (omega (arith, copied n))))

  pub copied_over : (old : List ℕ) (n : ℕ) → n ≤ length old → sets old 0 (map f (from 0 n)) ≡ over (map f (from 0 n)) old
  copied_over old n h =
      sets-eq (map f (from 0 n)) old 0 (omega (arith, copied n))
      ∙ rw zero-add

  -- onto zeros
  pub copied_zeros : (n m : ℕ) → n ≤ m → sets (replicate m 0) 0 (map f (from 0 n)) ≡ map f (from 0 n) ++ replicate (m - n) 0
  copied_zeros n m h =
      copied_over (replicate m 0) n (omega (arith, length-replicate {A = ℕ} m 0)) ∙ rw (copied n, drop_zeros n m)
