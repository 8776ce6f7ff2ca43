-- Lists of numbers below a bound: parts of them, joined, and with another stored in them.
-- Assumes nothing.
use mathlib.Core.List.{List, [], ◌∷◌, ◌++◌, flat_map}
use Prim.Native.Nat.{ℕ, zero, suc, ◌+◌, ◌<◌}
use lib.ListN.{set, take, drop}
use lib.Seq.{get_or-drop}
use Rattle.calls.specs.Call.{Below}

module _ (n : ℕ) where
  pub take_below : (m : ℕ) (l : List ℕ) → 0 < n → Below n l → Below n (take m l)
  take_below zero l p h k = p
  take_below (suc m) [] p h k = p
  take_below (suc m) (x ∷ l) p h zero = h zero
  take_below (suc m) (x ∷ l) p h (suc k) = take_below m l p (λ i. h (suc i)) k

  pub drop_below : (m : ℕ) (l : List ℕ) → Below n l → Below n (drop m l)
  drop_below m l h k = rw (get_or-drop m l k 0) (h (m + k))

  pub append_below : (xs ys : List ℕ) → Below n xs → Below n ys → Below n (xs ++ ys)
  append_below [] ys h g k = g k
  append_below (x ∷ xs) ys h g zero = h zero
  append_below (x ∷ xs) ys h g (suc k) = append_below xs ys (λ i. h (suc i)) g k

  pub join_below : (f : ℕ → List ℕ) (l : List ℕ) → 0 < n → ((x : ℕ) → Below n (f x)) → Below n (flat_map f l)
  unfolding flat_map
  join_below f [] p h k = p
  join_below f (x ∷ l) p h k = append_below (f x) (flat_map f l) (h x) (join_below f l p h) k

  pub set_below : (l : List ℕ) (i v : ℕ) → Below n l → v < n → Below n (set l i v)
  set_below [] i v h b k = h k
  set_below (x ∷ l) zero v h b zero = b
  set_below (x ∷ l) zero v h b (suc k) = h (suc k)
  set_below (x ∷ l) (suc i) v h b zero = h zero
  set_below (x ∷ l) (suc i) v h b (suc k) = set_below l i v (λ m. h (suc m)) b k
