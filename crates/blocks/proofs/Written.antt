-- How a block comes to be written, word by word, and how its check comes to be.
-- Assumes nothing.
use Rattle.std.proofs.Common.{◌≡◌, ℕ, suc, ◌+◌, ◌-◌, ◌*◌, ◌%◌, ◌^◌, ◌<◌, ◌≤◌, List, ◌++◌, map, length, get_or, take, drop, sym, ap, ◌∙◌, add-one, arith, drop_of_length-le, length-take-le, take_all, drop-cons, take-suc}
use Rattle.boxes.specs.Boxes.{from}
use Rattle.blocks.specs.Block.{word_bytes, block_bytes, payload_words, bytes_of, turned, check_from, check, payload, block}
use Rattle.blocks.specs.Working.Writing.{put}
use Rattle.blocks.proofs.Bytes.{bytes_of_all, bytes_all_append, bytes_all_one, bytes_all_length, get_d_padded, payload_length, block_length}
use Rattle.blocks.proofs.Puts.{put_put}

-- one word more, in a check of words read
module _ (f : ℕ → ℕ) (s k : ℕ) where
  pub check_read : k < payload_words →
      check_from ((turned s + f k) % 2 ^ 64) (map f (from (k + 1) (payload_words - (k + 1)))) ≡ check_from s (map f (from k (payload_words - k)))
  unfolding check_from from
  check_read h = let more : payload_words - k ≡ suc (payload_words - (k + 1)) = omega arith in rw (more, add-one k)

  pub check_all : {x : ℕ} → payload_words ≤ k → check_from s (map f (from k (payload_words - k))) ≡ x → s ≡ x
  unfolding check_from from
  check_all h e = let z : payload_words - k ≡ 0 = omega arith in rw z at e

-- one word more, in a check of words at hand
check_more : (s : ℕ) (ps : List ℕ) (k : ℕ) → k < length ps → check_from ((turned s + get_or ps k 0) % 2 ^ 64) (drop (k + 1) ps) ≡ check_from s (drop k ps)
unfolding check_from
check_more s ps k h = rw (add-one, drop-cons ps k 0 h)

check_done : (s : ℕ) (ps : List ℕ) (k : ℕ) → length ps ≤ k → check_from s (drop k ps) ≡ s
unfolding check_from
check_done s ps k h = rw (drop_of_length-le ps h)

-- one word more is written
word_more : (l : List ℕ) (at : ℕ) (ps : List ℕ) → at + length ps * word_bytes ≤ length l → (k : ℕ) → k < length ps →
    put (put l at (bytes_of_all (take k ps))) (at + k * word_bytes) (bytes_of word_bytes (get_or ps k 0)) ≡ put l at (bytes_of_all (take (k + 1) ps))
word_more l at ps fits k h =
    let e : length (bytes_of_all (take k ps)) ≡ k * word_bytes = rw (bytes_all_length, length-take-le k ps (omega arith)) in
    rw (add-one, take-suc ps k 0 h, bytes_all_append, bytes_all_one)
    (rw e at (put_put l at (bytes_of_all (take k ps)) (omega arith) (bytes_of word_bytes (get_or ps k 0))))

-- A turn of the loop that writes a block.
module _ (ws : List ℕ) (few : length ws ≤ payload_words) (k w : ℕ) (more : k < payload_words) (e : w ≡ get_or ws k 0) where
  word_here : w ≡ get_or (payload ws) k 0
  word_here = e ∙ sym (get_d_padded ws (payload_words - length ws) k)

  pub word_turn : (l : List ℕ) (at : ℕ) {bs bs' : List ℕ} → at + block_bytes ≤ length l → bs ≡ put l at (bytes_of_all (take k (payload ws)))
      → bs' ≡ put bs (at + k * word_bytes) (bytes_of word_bytes w) → bs' ≡ put l at (bytes_of_all (take (k + 1) (payload ws)))
  word_turn l at fits p q =
      let n : length (payload ws) ≡ payload_words = payload_length ws few in
      q ∙ rw (p, word_here) (word_more l at (payload ws) (omega arith) k (omega arith))

  pub check_turn : (s t : ℕ) {s' : ℕ} → t ≡ turned s → s' ≡ (t + w) % 2 ^ 64 → check_from s' (drop (k + 1) (payload ws)) ≡ check_from s (drop k (payload ws))
  check_turn s t p q =
      let n : length (payload ws) ≡ payload_words = payload_length ws few in
      rw (q, p, word_here) (check_more s (payload ws) k (omega arith))

-- the last word
pub block_done : (l : List ℕ) (at : ℕ) (ws : List ℕ) (k s : ℕ) → length ws ≤ payload_words → at + block_bytes ≤ length l → payload_words ≤ k
    → check_from s (drop k (payload ws)) ≡ check (payload ws)
    → put (put l at (bytes_of_all (take k (payload ws)))) (at + payload_words * word_bytes) (bytes_of word_bytes s) ≡ put l at (block ws)
unfolding block
block_done l at ws k s h fits done e =
    let p : length (payload ws) ≡ payload_words = payload_length ws h in
    let all : take k (payload ws) ≡ payload ws = take_all k (payload ws) (omega arith) in
    let q : s ≡ check (payload ws) = sym (check_done s (payload ws) k (omega arith)) ∙ e in
    let n : length (bytes_of_all (payload ws)) ≡ payload_words * word_bytes = bytes_all_length (payload ws) ∙ ap (λ (x : ℕ). x * word_bytes) p in
    rw (all, q, bytes_all_append (payload ws), bytes_all_one)
    (rw n at (put_put l at (bytes_of_all (payload ws)) (omega arith) (bytes_of word_bytes (check (payload ws)))))

-- two blocks, one behind the other
pub two_blocks : (l : List ℕ) (at : ℕ) (xs ys : List ℕ) {bs bs' : List ℕ} → length xs ≤ payload_words → at + 2 * block_bytes ≤ length l →
    bs ≡ put l at (block xs) → bs' ≡ put bs (at + block_bytes) (block ys) → bs' ≡ put l at (block xs ++ block ys)
two_blocks l at xs ys few fits p q =
    let n : length (block xs) ≡ block_bytes = block_length xs few in
    q ∙ rw p (rw n at (put_put l at (block xs) (omega arith) (block ys)))
