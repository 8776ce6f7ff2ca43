-- Blocks with the same payload words are the same bytes, if every check agrees.
-- Assumes nothing.
use Rattle.std.proofs.Common.{◌≡◌, ℕ, zero, suc, ◌+◌, ◌*◌, ◌/◌, ◌%◌, ◌^◌, ◌<◌, ◌≤◌, true, ltb, List, [], ◌∷◌, map, length, get_or, take, drop, sym, refl, ap, ◌∙◌, zero-add, arith, length-drop, take-append-drop, get_or-drop, drop-drop, ext_get_or, ltb-false, ltb-true, eqb-true}
use lib.ListN.{length-map}
use Rattle.boxes.specs.Boxes.{from}
use Rattle.boxes.proofs.Lists.{by_test, length_from, from_at}
use Rattle.blocks.specs.Block.{word_bytes, block_words, block_bytes, payload_words, number_of, word_at, check, block_count, block_agrees, checks_agree}
use Rattle.blocks.proofs.Each.{each_at}

abbrev Bytes : List ℕ → Type 0
Bytes bs = (k : ℕ) → get_or bs k 0 < 2 ^ 8

-- a number has one lowest byte
byte_one : (a b m n : ℕ) → a < 256 → b < 256 → a + 256 * m ≡ b + 256 * n → (a ≡ b) × (m ≡ n)
byte_one a b m n p q e = (omega arith, omega arith)

-- n bytes that hold one number are the same
number_one : (n : ℕ) (xs ys : List ℕ) → Bytes xs → Bytes ys → n ≤ length xs → n ≤ length ys → number_of (take n xs) ≡ number_of (take n ys) → take n xs ≡ take n ys
unfolding number_of
number_one zero xs ys hx hy lx ly e = refl
number_one (suc n) [] ys hx hy lx ly e = absurd (omega arith)
number_one (suc n) (x ∷ xs) [] hx hy lx ly e = absurd (omega arith)
number_one (suc n) (x ∷ xs) (y ∷ ys) hx hy lx ly e =
    let (p, q) = byte_one x y (number_of (take n xs)) (number_of (take n ys)) (hx 0) (hy 0) e in
    rw (p, number_one n xs ys (λ k. hx (suc k)) (λ k. hy (suc k)) (omega arith) (omega arith) q)

-- the words from a place on
words_behind : (bytes : List ℕ) (n k : ℕ) → word_at (drop (n * word_bytes) bytes) k ≡ word_at bytes (n + k)
words_behind bytes n k =
    let z : (n + k) * word_bytes ≡ n * word_bytes + k * word_bytes = omega arith in rw (z, drop-drop (k * word_bytes) (n * word_bytes) bytes)

-- n words that are the same
words_same : (n : ℕ) (xs ys : List ℕ) → Bytes xs → Bytes ys → length xs ≡ n * word_bytes → length ys ≡ n * word_bytes
    → ((k : ℕ) → k < n → word_at xs k ≡ word_at ys k) → xs ≡ ys
words_same zero xs ys hx hy lx ly h = ext_get_or 0 xs ys (omega arith) (λ i l. absurd (omega arith))
words_same (suc n) xs ys hx hy lx ly h =
    let first : take word_bytes xs ≡ take word_bytes ys = number_one word_bytes xs ys hx hy (omega arith) (omega arith) (h 0 (omega arith)) in
    let rest : drop word_bytes xs ≡ drop word_bytes ys =
    words_same n (drop word_bytes xs) (drop word_bytes ys)
    (λ k. rw (get_or-drop word_bytes xs k 0) (hx (word_bytes + k)))
    (λ k. rw (get_or-drop word_bytes ys k 0) (hy (word_bytes + k)))
    (rw length-drop (omega arith)) (rw length-drop (omega arith))
    (λ k l. words_behind xs 1 k ∙ h (1 + k) (omega arith) ∙ sym (words_behind ys 1 k)) in
    sym (take-append-drop word_bytes xs) ∙ rw (first, rest) (take-append-drop word_bytes ys)

-- the check of block q is that of its payload words
check_is : (bytes : List ℕ) (q : ℕ) → checks_agree bytes ≡ true → q < block_count bytes →
    let b = drop (q * block_bytes) bytes in
    check (map (word_at b) (from 0 payload_words)) ≡ word_at b payload_words
unfolding checks_agree
check_is bytes q h l = eqb-true _ _ (each_at (block_agrees bytes) (block_count bytes) 0 h q (omega arith) (omega arith))

-- word k of block q
word_of : (bytes : List ℕ) (q k : ℕ) → word_at (drop (q * block_bytes) bytes) k ≡ word_at bytes (q * block_words + k)
word_of bytes q k =
    let z : q * block_bytes ≡ q * block_words * word_bytes = omega arith in rw z (words_behind bytes (q * block_words) k)

-- whole blocks whose checks agree
module _ (xs ys : List ℕ) (hx : Bytes xs) (hy : Bytes ys) (whole : length xs % block_bytes ≡ 0) (size : length ys ≡ length xs)
    (checks : checks_agree xs ≡ true) (checks_again : checks_agree ys ≡ true)
    (same : (q r : ℕ) → q < block_count xs → r < payload_words → word_at xs (q * block_words + r) ≡ word_at ys (q * block_words + r)) where
  last_same : (q : ℕ) → q < block_count xs → word_at xs (q * block_words + payload_words) ≡ word_at ys (q * block_words + payload_words)
  last_same q l =
      let a = drop (q * block_bytes) xs in
      let b = drop (q * block_bytes) ys in
      let n : length (map (word_at a) (from 0 payload_words)) ≡ payload_words = length-map (from 0 payload_words) (word_at a) ∙ length_from payload_words 0 in
      let m : length (map (word_at b) (from 0 payload_words)) ≡ payload_words = length-map (from 0 payload_words) (word_at b) ∙ length_from payload_words 0 in
      let words : map (word_at a) (from 0 payload_words) ≡ map (word_at b) (from 0 payload_words) =
      ext_get_or 0 _ _ (n ∙ sym m)
      (λ r i. let p : r < payload_words = omega arith in
      from_at (word_at a) 0 payload_words 0 r p
      ∙ rw zero-add (word_of xs q r ∙ same q r l p ∙ sym (word_of ys q r))
      ∙ sym (from_at (word_at b) 0 payload_words 0 r p)) in
      sym (word_of xs q payload_words)
      ∙ sym (check_is xs q checks l)
      ∙ ap check words
      ∙ check_is ys q checks_again (omega arith)
      ∙ word_of ys q payload_words

  pub blocks_same : xs ≡ ys
  blocks_same =
      words_same (block_count xs * block_words) xs ys hx hy (omega arith) (omega arith)
      (λ k l.
      let q = k / block_words in
      let r = k % block_words in
      let e : q * block_words + r ≡ k = omega arith in
      let inside : q < block_count xs = omega arith in
      by_test (ltb r payload_words)
      (λ t. rw e at (same q r inside (ltb-true r payload_words t)))
      (λ t. let z : q * block_words + payload_words ≡ k = omega (arith, ltb-false r payload_words t) in rw z at (last_same q inside)))
