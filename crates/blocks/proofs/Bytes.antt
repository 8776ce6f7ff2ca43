-- Words in bytes and back.
-- Assumes nothing.
use Rattle.std.proofs.Common.{◌≡◌, ℕ, zero, suc, ◌+◌, ◌*◌, ◌/◌, ◌^◌, ◌<◌, ◌≤◌, List, [], ◌∷◌, ◌++◌, length, get_or, take, drop, replicate, sym, refl, ap, ◌∙◌, append_assoc, append-nil, pow-suc, arith, length-append, length-drop, get_or-drop, drop-drop, take_at}
use Rattle.std.specs.Int.{w64, to_le_bytes, from_le_bytes}
use mathlib.Core.List.{flat_map}
use native.Mathlib.Nat.{div-div-eq-div-mul}
use lib.ListN.{length-replicate}
use lib.Seq.{take-append-le, drop-append-le, drop-append-add}
use Rattle.blocks.specs.Block.{word_bytes, block_bytes, payload_words, bytes_of, number_of, word_at, payload, block}

pub bytes_length : (n w : ℕ) → length (bytes_of n w) ≡ n
unfolding bytes_of
bytes_length zero w = refl
bytes_length (suc n) w = ap suc (bytes_length n (w / 256))

-- a number that n bytes hold comes back
pub bytes_number : (n w : ℕ) → w < 256 ^ n → number_of (bytes_of n w) ≡ w
unfolding bytes_of number_of
bytes_number zero w l = omega arith
bytes_number (suc n) w l =
    let h : w < 256 ^ n * 256 = rw pow-suc at l in
    rw (bytes_number n (w / 256) (omega arith)) (omega arith)

-- the room for a byte more in front
pub below_more : (n b w : ℕ) → b < 256 → w < 256 ^ n → b + 256 * w < 256 ^ suc n
below_more n b w hb hw = rw pow-suc (omega arith)

-- n bytes hold a number below 256 ^ n
number_below : (n : ℕ) (bs : List ℕ) → ((k : ℕ) → get_or bs k 0 < 2 ^ 8) → number_of (take n bs) < 256 ^ n
unfolding number_of
number_below zero bs h = omega arith
number_below (suc n) [] h = rw pow-suc (omega (arith, number_below n [] h))
number_below (suc n) (b ∷ bs) h = rw pow-suc (omega (arith, h 0, number_below n bs (λ k. h (suc k))))

-- words of bytes, from anywhere and in a row
module _ (bs : List ℕ) (bytes : (k : ℕ) → get_or bs k 0 < 2 ^ 8) where
  pub eight_below : (i : ℕ) → number_of (take word_bytes (drop i bs)) < 2 ^ 64
  eight_below i = number_below word_bytes (drop i bs) (λ k. rw (get_or-drop i bs k 0) (bytes (i + k)))

  pub word_below : (k : ℕ) → word_at bs k < 2 ^ 64
  word_below k = eight_below (k * word_bytes)

-- the library's bytes of a word, and its number of eight bytes
pub bytes_eight : (w : ℕ) → to_le_bytes w64 w ≡ bytes_of word_bytes w
unfolding bytes_of
bytes_eight w = simp div-div-eq-div-mul

pub number_eight : (bs : List ℕ) → length bs ≡ word_bytes → from_le_bytes w64 bs ≡ number_of bs
unfolding number_of
number_eight (a ∷ b ∷ c ∷ d ∷ e ∷ f ∷ g ∷ h ∷ []) l = omega arith
number_eight _ l = absurd (omega arith)

-- the bytes of words

abbrev pub bytes_of_all : List ℕ → List ℕ
bytes_of_all = flat_map (bytes_of word_bytes)

pub bytes_all_append : (xs ys : List ℕ) → bytes_of_all (xs ++ ys) ≡ bytes_of_all xs ++ bytes_of_all ys
unfolding flat_map
bytes_all_append [] ys = refl
bytes_all_append (x ∷ xs) ys = rw (bytes_all_append xs ys) (sym (append_assoc (bytes_of word_bytes x) (bytes_of_all xs) (bytes_of_all ys)))

pub bytes_all_one : (x : ℕ) → bytes_of_all (x ∷ []) ≡ bytes_of word_bytes x
unfolding flat_map
bytes_all_one x = append-nil (bytes_of word_bytes x)

pub bytes_all_length : (ws : List ℕ) → length (bytes_of_all ws) ≡ length ws * word_bytes
unfolding flat_map
bytes_all_length [] = omega arith
bytes_all_length (w ∷ ws) = omega (arith, length-append (bytes_of word_bytes w) (bytes_of_all ws), bytes_length word_bytes w, bytes_all_length ws)

-- word k from a place on is the word k places further
pub word_from : (bs : List ℕ) (at k : ℕ) → word_at (drop (at + k * word_bytes) bs) 0 ≡ word_at (drop at bs) k
word_from bs at k = rw (drop-drop (k * word_bytes) at bs)

-- words of joined bytes
pub word_left : (xs ys : List ℕ) (k : ℕ) → k * word_bytes + word_bytes ≤ length xs → word_at (xs ++ ys) k ≡ word_at xs k
word_left xs ys k l =
    rw (
      drop-append-le (k * word_bytes) xs ys (omega arith),
      take-append-le word_bytes (drop (k * word_bytes) xs) ys (rw length-drop (omega arith)),
    )

pub word_right : (xs ys : List ℕ) (n k : ℕ) → length xs ≡ n * word_bytes → word_at (xs ++ ys) (n + k) ≡ word_at ys k
word_right xs ys n k e =
    let z : (n + k) * word_bytes ≡ length xs + k * word_bytes = omega arith in
    rw (z, drop-append-add xs ys (k * word_bytes))

word_next : (w : ℕ) (ys : List ℕ) (k : ℕ) → word_at (bytes_of word_bytes w ++ ys) (suc k) ≡ word_at ys k
word_next w ys k =
    let z : suc k ≡ 1 + k = omega arith in
    rw z (word_right (bytes_of word_bytes w) ys 1 k (bytes_length word_bytes w))

pub word_at_lem : (ws : List ℕ) (k : ℕ) → k < length ws → get_or ws k 0 < 2 ^ 64 → word_at (bytes_of_all ws) k ≡ get_or ws k 0
unfolding flat_map
word_at_lem [] k l h = absurd (omega arith)
word_at_lem (w ∷ ws) zero l h =
    rw (take_at (bytes_of word_bytes w) (bytes_of_all ws) word_bytes (bytes_length word_bytes w)) (bytes_number word_bytes w h)
word_at_lem (w ∷ ws) (suc k) l h = word_next w (bytes_of_all ws) k ∙ word_at_lem ws k (omega arith) h

-- the words of a block

pub get_d_padded : (ws : List ℕ) (n k : ℕ) → get_or (ws ++ replicate n 0) k 0 ≡ get_or ws k 0
get_d_padded [] zero k = refl
get_d_padded [] (suc n) zero = refl
get_d_padded [] (suc n) (suc k) = get_d_padded [] n k
get_d_padded (w ∷ ws) n zero = refl
get_d_padded (w ∷ ws) n (suc k) = get_d_padded ws n k

pub payload_length : (ws : List ℕ) → length ws ≤ payload_words → length (payload ws) ≡ payload_words
payload_length ws l = rw (length-append, length-replicate) (omega arith)

pub block_length : (ws : List ℕ) → length ws ≤ payload_words → length (block ws) ≡ block_bytes
unfolding block
block_length ws l = rw (bytes_all_length, length-append, payload_length ws l)
