-- What is read from bytes is of its types: words below 2^64, halves of words below 2^32.
-- Assumes nothing.
use mathlib.Core.List.{List, [], ◌∷◌, map}
use Prim.Native.Nat.{ℕ, zero, suc, ◌+◌, ◌-◌, ◌*◌, ◌%◌, ◌/◌, ◌^◌, ◌<◌}
use native.Mathlib.Omega.{arith}
use lib.Dec.{eqb}
use lib.ListN.{take, drop, replicate}
use lib.Seq.{get_or-drop}
use Rattle.boxes.specs.Boxes.{from}
use Rattle.boxes.proofs.Lists.{by_test}
use Rattle.blocks.specs.Block.{word_bytes, block_words, payload_words, number_of, word_at}
use Rattle.blocks.proofs.Bytes.{below_more, get_d_padded}
use Rattle.calls.specs.Call.{Below}
use Rattle.riscu.specs.Limits.{memory_words}
use Rattle.jobs.specs.Header as header
use Rattle.jobs.specs.Job.{code_count, input_count, given_count, first_code, first_memory, payload_at, code_at, memory_at, interval_at, code_in, intervals_in, memory_in}

-- n bytes hold a number below 256 ^ n
number_below : (n : ℕ) (bs : List ℕ) → Below (2 ^ 8) bs → number_of (take n bs) < 256 ^ n
unfolding number_of
number_below zero bs h = omega arith
number_below (suc n) [] h = omega (arith, below_more n 0 (number_of (take n [])) (omega arith) (number_below n [] h))
number_below (suc n) (b ∷ bs) h = below_more n b (number_of (take n bs)) (h 0) (number_below n bs (λ k. h (suc k)))

pub map_below : (n : ℕ) (f : ℕ → ℕ) (l : List ℕ) → 0 < n → ((i : ℕ) → f i < n) → Below n (map f l)
map_below n f [] p h k = p
map_below n f (x ∷ l) p h zero = h x
map_below n f (x ∷ l) p h (suc k) = map_below n f l p h k

pub zeros_typed : (n : ℕ) → Below (2 ^ 64) (replicate n 0)
zeros_typed n k = rw (get_d_padded [] n k) (omega arith)

module _ (job : List ℕ) (bytes : Below (2 ^ 8) job) where
  pub word_below : (k : ℕ) → word_at job k < 2 ^ 64
  word_below k = number_below word_bytes (drop (k * word_bytes) job) (λ i. rw (get_or-drop (k * word_bytes) job i 0) (bytes (k * word_bytes + i)))

  payload_below : (b i : ℕ) → payload_at job b i < 2 ^ 64
  unfolding payload_at
  payload_below b i = word_below ((b + i / payload_words) * block_words + i % payload_words)

  code_below : (i : ℕ) → code_at job i < 2 ^ 32
  unfolding code_at
  code_below i =
      let l = payload_below (first_code (input_count job)) (i / 2) in
      by_test (eqb (i % 2) 0) (λ e. rw e (omega arith)) (λ e. rw e (omega arith))

  interval_below : (i : ℕ) → interval_at job i < 2 ^ 64
  unfolding interval_at
  interval_below i = by_test (eqb (i % 2) 0) (λ e. rw e (word_below (header.lows + i / 2))) (λ e. rw e (word_below (header.highs + i / 2)))

  pub memory_typed : Below (2 ^ 64) (memory_in job)
  unfolding memory_in
  memory_typed k = rw (get_d_padded (map (memory_at job) (from 0 (given_count job))) (memory_words - given_count job) k)
      (map_below (2 ^ 64) (memory_at job) (from 0 (given_count job)) (omega arith) (payload_below (first_memory job)) k)

  pub code_typed : Below (2 ^ 32) (code_in job)
  unfolding code_in
  code_typed = map_below (2 ^ 32) (code_at job) (from 0 (code_count job)) (omega arith) code_below

  pub intervals_typed : Below (2 ^ 64) (intervals_in job)
  unfolding intervals_in
  intervals_typed = map_below (2 ^ 64) (interval_at job) (from 0 (2 * input_count job)) (omega arith) interval_below
