-- The check of a block: changing just one payload word always changes it; of an all-zero payload it is 2^63.
-- Assumes nothing.
use Rattle.std.proofs.Common.{◌≡◌, ℕ, zero, suc, ◌+◌, ◌*◌, ◌/◌, ◌%◌, ◌^◌, ◌<◌, List, [], ◌∷◌, length, get_or, set, replicate, sym, refl, ap, ◌∙◌, mod-lt, div-lt_iff_lt-mul, add_comm, arith}
use native.Mathlib.Nat.{mod-add-div'}
use lib.Seq.{set-get_or}
use Rattle.blocks.specs.Block.{payload_words, turned, check_from, check}

pub check_zero : check (replicate payload_words 0) ≡ 0x8000000000000000
unfolding check_from
check_zero = refl

pub check_word : (ws : List ℕ) {s : ℕ} → s < 2 ^ 64 → check_from s ws < 2 ^ 64
unfolding check_from
check_word [] l = l
check_word (w ∷ ws) l = check_word ws (omega arith)

-- a turned word by its 63 lower bits and its top bit
turned_parts : (s : ℕ) → turned s ≡ s % 2 ^ 63 * 2 + s / 2 ^ 63
turned_parts s = omega arith

pub top_bit : (s : ℕ) → s < 2 ^ 64 → s / 2 ^ 63 < 2
top_bit s h = (div-lt_iff_lt-mul {k = 2 ^ 63} {x = s} {y = 2} (omega arith)).1 h

pub parts_fit : (m q : ℕ) → m < 2 ^ 63 → q < 2 → m * 2 + q < 2 ^ 64
parts_fit m q hm hq = omega arith

parts_one : (m n p q : ℕ) → p < 2 → q < 2 → m * 2 + p ≡ n * 2 + q → (m ≡ n) × (p ≡ q)
parts_one m n p q hp hq e = (omega arith, omega arith)

turned_word : (s : ℕ) → s < 2 ^ 64 → turned s < 2 ^ 64
turned_word s h = rw turned_parts (parts_fit (s % 2 ^ 63) (s / 2 ^ 63) (mod-lt s {m = 2 ^ 63} (omega arith)) (top_bit s h))

-- turning and adding lose nothing
turned_one : (s t : ℕ) → s < 2 ^ 64 → t < 2 ^ 64 → turned s ≡ turned t → s ≡ t
turned_one s t hs ht e =
    let (m, q) = parts_one (s % 2 ^ 63) (t % 2 ^ 63) (s / 2 ^ 63) (t / 2 ^ 63) (top_bit s hs) (top_bit t ht) (sym (turned_parts s) ∙ e ∙ turned_parts t) in
    sym (mod-add-div' s (2 ^ 63)) ∙ ap (λ (x : ℕ). x + s / 2 ^ 63 * 2 ^ 63) m ∙ ap (λ (x : ℕ). t % 2 ^ 63 + x * 2 ^ 63) q ∙ mod-add-div' t (2 ^ 63)

sum_one : (a b w : ℕ) → a < 2 ^ 64 → b < 2 ^ 64 → (a + w) % 2 ^ 64 ≡ (b + w) % 2 ^ 64 → a ≡ b
sum_one a b w ha hb e = omega arith

from_one : (s t : ℕ) (ws : List ℕ) → s < 2 ^ 64 → t < 2 ^ 64 → check_from s ws ≡ check_from t ws → s ≡ t
unfolding check_from
from_one s t [] hs ht e = e
from_one s t (w ∷ ws) hs ht e =
    turned_one s t hs ht
    (sum_one (turned s) (turned t) w (turned_word s hs) (turned_word t ht)
    (from_one ((turned s + w) % 2 ^ 64) ((turned t + w) % 2 ^ 64) ws (omega arith) (omega arith) e))

-- two words at one place that give one check are the same
from_each : (s : ℕ) (ws : List ℕ) (i u v : ℕ) → s < 2 ^ 64 → i < length ws → u < 2 ^ 64 → v < 2 ^ 64 → check_from s (set ws i u) ≡ check_from s (set ws i v) → u ≡ v
unfolding check_from
from_each s [] i u v hs h hu hv e = omega arith
from_each s (w ∷ ws) zero u v hs h hu hv e =
    let q : (turned s + u) % 2 ^ 64 ≡ (turned s + v) % 2 ^ 64 = from_one ((turned s + u) % 2 ^ 64) ((turned s + v) % 2 ^ 64) ws (omega arith) (omega arith) e in
    sum_one u v (turned s) hu hv (rw (add_comm u, add_comm v) q)
from_each s (w ∷ ws) (suc i) u v hs h hu hv e = from_each ((turned s + w) % 2 ^ 64) ws i u v (omega arith) (omega arith) hu hv e

-- Another word at one place, another check.
pub check_changes : (ws : List ℕ) (i v : ℕ) → i < length ws → get_or ws i 0 < 2 ^ 64 → v < 2 ^ 64 → ¬ (v ≡ get_or ws i 0) → ¬ (check (set ws i v) ≡ check ws)
check_changes ws i v h hw hv d e = d (from_each 1 ws i v (get_or ws i 0) (omega arith) h hv hw (e ∙ ap check (sym (set-get_or ws i 0))))
