-- The intervals of low, high, low, high.
-- Assumes nothing.
use mathlib.Core.Path.{◌≡◌, refl, ◌∙◌}
use mathlib.Core.List.{List, [], ◌∷◌, ◌++◌, map}
use Prim.Native.Nat.{ℕ, zero, suc, ◌+◌, ◌*◌, ◌/◌, ◌%◌, ◌<◌}
use native.Mathlib.Nat.{add-zero}
use native.Mathlib.Omega.{arith}
use lib.Dec.{leb}
use lib.ListN.{length, get_or}
use Rattle.std.specs.List.{list_all}
use Rattle.std.specs.declared.slice.ChunksExact.{ChunksExact}
use Rattle.std.specs.Slice.Iter.{chunks_exact_size, chunks_exact_rest, chunks_exact_steps}
use Rattle.std.proofs.lemmas.Iterator.{YieldsList}
use Rattle.std.proofs.lemmas.Iterator.Splits.{YieldsList-from_shown_while}
use Rattle.boxes.specs.Boxes.{Interval, Box, ◌⋯◌}
use Rattle.calls.specs.Call.{Below, box_of}
use Rattle.calls.specs.Questions.{in_order}

-- an interval for each whole pair
pub pairs_length : (v : List ℕ) → length (box_of v) ≡ length v / 2
unfolding box_of
pairs_length [] = refl
pairs_length (l ∷ []) = refl
pairs_length (l ∷ (h ∷ v)) = omega (arith, pairs_length v)

pub pairs : (v : List ℕ) → length v % 2 ≡ 0 → 2 * length (box_of v) ≡ length v
pairs v e = omega (arith, pairs_length v)

-- and each interval has its two numbers
pub pair_at : (v : List ℕ) (i : ℕ) → i < length (box_of v) → get_or (box_of v) i (0 ⋯ 0) ≡ get_or v (2 * i + 0) 0 ⋯ get_or v (2 * i + 1) 0
unfolding box_of
pair_at [] i h = absurd (omega arith)
pair_at (l ∷ []) i h = absurd (omega arith)
pair_at (l ∷ (x ∷ v)) zero h = refl
pair_at (l ∷ (x ∷ v)) (suc i) h =
    let a : 2 * suc i + 0 ≡ suc (suc (2 * i + 0)) = omega arith in
    let b : 2 * suc i + 1 ≡ suc (suc (2 * i + 1)) = omega arith in
    rw (a, b) (pair_at v i (omega arith))

-- lows or highs of numbers below a bound are below it
pub sides_below : (n : ℕ) (side : Interval → ℕ) → ((l h : ℕ) → l < n → h < n → side (l ⋯ h) < n) → 0 < n → (v : List ℕ) → Below n v → Below n (map side (box_of v))
unfolding box_of
sides_below n side s p [] h k = p
sides_below n side s p (l ∷ []) h k = p
sides_below n side s p (l ∷ (x ∷ v)) h zero = s l x (h 0) (h 1)
sides_below n side s p (l ∷ (x ∷ v)) h (suc k) = sides_below n side s p v (λ i. h (suc (suc i))) k

-- a test of each interval, as numbers come pair by pair

pub box_short : (v : List ℕ) → length v < 2 → length (box_of v) ≡ 0
unfolding box_of
box_short [] h = refl
box_short (l ∷ []) h = refl
box_short (l ∷ (x ∷ v)) h = absurd (omega arith)

pub box_more : (p v : List ℕ) → length p ≡ 2 → box_of (p ++ v) ≡ (get_or p 0 0 ⋯ get_or p 1 0) ∷ box_of v
unfolding box_of
box_more [] v e = absurd (omega arith)
box_more (l ∷ []) v e = absurd (omega arith)
box_more (l ∷ (x ∷ [])) v e = refl
box_more (l ∷ (x ∷ (y ∷ p))) v e = absurd (omega arith)

pub pairs_come : (s : ChunksExact ℕ) → chunks_exact_size s ≡ 2 → YieldsList chunks_exact_steps (λ p. get_or p.now 0 0 ⋯ get_or p.now 1 0) s (box_of (chunks_exact_rest s))
pairs_come s e =
    YieldsList-from_shown_while chunks_exact_steps (λ p. get_or p.now 0 0 ⋯ get_or p.now 1 0) (λ s. box_of (chunks_exact_rest s)) (λ s. chunks_exact_size s ≡ 2)
    (λ s t e h. box_short (chunks_exact_rest s) (omega arith))
    (λ s x t e h. (h.0 ∙ e, rw (h.1.0) (box_more x.now (chunks_exact_rest t) (h.1.1 ∙ e)))) s e

pub in_order_all : (b : Box) → list_all (λ v. leb v.low v.high) b ≡ in_order b
unfolding in_order
in_order_all [] = refl
in_order_all (v ∷ b) = rw (in_order_all b)
