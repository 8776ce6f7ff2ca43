-- Accepted jobs from which the same is read, and which give as many memory words, are the same bytes.
-- Assumes nothing.
use mathlib.Core.Path.{◌≡◌, sym, ap, ◌∙◌}
use mathlib.Core.Bool.{true}
use mathlib.Core.List.{List, map}
use mathlib.Core.Option.{none}
use Prim.Native.Nat.{ℕ, zero, suc, ◌+◌, ◌-◌, ◌*◌, ◌/◌, ◌%◌, ◌^◌, ◌≤◌, ◌<◌}
use native.Mathlib.Nat.{zero-add}
use native.Mathlib.Omega.{arith}
use borrow.Author.Tests.{ltb-true, ltb-false, eqb-true, eqb-false}
use lib.Dec.{eqb, ltb}
use lib.ListN.{length, get_or, get_or-eq_default}
use Rattle.boxes.specs.Boxes.{from}
use Rattle.boxes.proofs.Lists.{by_test, from_at}
use Rattle.riscu.specs.Limits.{memory_words}
use Rattle.blocks.specs.Block.{block_words, payload_words, word_at, block_count}
use Rattle.blocks.specs.Record.{most_inputs}
use Rattle.blocks.proofs.Bytes.{get_d_padded}
use Rattle.blocks.proofs.Each.{each_at}
use Rattle.blocks.proofs.Same.{blocks_same}
use Rattle.calls.specs.Call.{Below}
use Rattle.jobs.specs.Header as header
use Rattle.jobs.specs.Job.{JobRead, mark, code_count, input_count, given_count, code_blocks, memory_blocks, first_code, first_memory, blocks_needed, half, payload_at, code_at, memory_at, interval_at, code_in, intervals_in, memory_in, job_read, zero_word, zero_half, zero_words, zero_halves, unused_zero, well_formed, job_refusal_of}
use Rattle.jobs.proofs.Accepted.{code_length, intervals_length}
use Rattle.jobs.proofs.Asked.{both, yes_passed, yes_sized}
use Rattle.jobs.proofs.Copied.{copied_padded}
use Rattle.jobs.proofs.Placed.{header_payload, payload_word}

-- a word by its halves
word_halves : (w i : ℕ) → half (2 * i) w + 2 ^ 32 * half (2 * i + 1) w ≡ w
word_halves w i =
    let even : 2 * i % 2 ≡ 0 = omega arith in
    let odd : (2 * i + 1) % 2 ≡ 1 = omega arith in
    rw (even, odd) (omega arith)

-- An accepted job, word by word: what is read, and then 0.
module _ (bytes : List ℕ) (e : job_refusal_of bytes ≡ none) where
  -- what question 11 leaves
  record Formed : Type 0 where
    mark_word : mark bytes ≡ header.mark_word
    blocks : block_count bytes ≡ blocks_needed (input_count bytes) (code_count bytes) (given_count bytes)
    lows : zero_words bytes 0 (header.lows + input_count bytes) header.highs ≡ true
    highs : zero_words bytes 0 (header.highs + input_count bytes) header.given ≡ true
    rest : zero_words bytes 0 header.rest payload_words ≡ true
    code : zero_halves bytes (code_count bytes) (2 * payload_words * code_blocks bytes) ≡ true
    memory : zero_words bytes (first_memory bytes) (given_count bytes) (payload_words * memory_blocks bytes) ≡ true

  formed : Formed
  unfolding well_formed unused_zero
  formed =
      let n = input_count bytes in
      let (q1, e1) = both (eqb (mark bytes) header.mark_word) _ (yes_passed bytes e).form in
      let (q2, e2) = both (eqb (block_count bytes) (blocks_needed n (code_count bytes) (given_count bytes))) _ e1 in
      let (q3, e3) = both (zero_words bytes 0 (header.lows + n) header.highs) _ e2 in
      let (q4, e4) = both (zero_words bytes 0 (header.highs + n) header.given) _ e3 in
      let (q5, e5) = both (zero_words bytes 0 header.rest payload_words) _ e4 in
      let (q6, q7) = both (zero_halves bytes (code_count bytes) (2 * payload_words * code_blocks bytes)) _ e5 in
      record { mark_word = eqb-true _ _ q1; blocks = eqb-true _ _ q2; lows = q3; highs = q4; rest = q5; code = q6; memory = q7 }

  zero_at : (b i m : ℕ) → zero_words bytes b i m ≡ true → (k : ℕ) → i ≤ k → k < m → payload_at bytes b k ≡ 0
  unfolding zero_words
  zero_at b i m h k l o = eqb-true _ _ (each_at (zero_word bytes b) (m - i) i h k l (omega arith))

  half_zero : (k : ℕ) → code_count bytes ≤ k → k < 2 * payload_words * code_blocks bytes → code_at bytes k ≡ 0
  unfolding zero_halves
  half_zero k l o =
      let n = code_count bytes in
      eqb-true _ _ (each_at (zero_half bytes) (2 * payload_words * code_blocks bytes - n) n formed.code k l (omega arith))

  -- the two ends of an input
  end_at : (place odd : ℕ) → place + most_inputs ≤ payload_words → odd < 2 → zero_words bytes 0 (place + input_count bytes) (place + most_inputs) ≡ true
      → ((i : ℕ) → interval_at bytes (2 * i + odd) ≡ word_at bytes (place + i))
      → (i : ℕ) → i < most_inputs → word_at bytes (place + i) ≡ get_or (intervals_in bytes) (2 * i + odd) 0
  unfolding intervals_in
  end_at place odd inside o zeros ends i l =
      let n = input_count bytes in
      by_test (ltb i n)
      (λ t.
      let few : i < n = ltb-true i n t in
      sym (from_at (interval_at bytes) 0 (2 * n) 0 (2 * i + odd) (omega arith) ∙ rw zero-add (ends i)))
      (λ t.
      let past : n ≤ i = ltb-false i n t in
      sym (header_payload bytes (place + i) (omega arith))
      ∙ zero_at 0 (place + n) (place + most_inputs) zeros (place + i) (omega arith) (omega arith)
      ∙ sym (get_or-eq_default (intervals_in bytes) 0 {n = 2 * i + odd} (omega (arith, intervals_length bytes))))

  low_is : (i : ℕ) → i < most_inputs → word_at bytes (header.lows + i) ≡ get_or (intervals_in bytes) (2 * i + 0) 0
  unfolding interval_at
  low_is =
      end_at header.lows 0 (omega arith) (omega arith) formed.lows
      (λ i. let z : (2 * i + 0) % 2 ≡ 0 = omega arith in let y : (2 * i + 0) / 2 ≡ i = omega arith in rw (z, y))

  high_is : (i : ℕ) → i < most_inputs → word_at bytes (header.highs + i) ≡ get_or (intervals_in bytes) (2 * i + 1) 0
  unfolding interval_at
  high_is =
      end_at header.highs 1 (omega arith) (omega arith) formed.highs
      (λ i. let z : (2 * i + 1) % 2 ≡ 1 = omega arith in let y : (2 * i + 1) / 2 ≡ i = omega arith in rw (z, y))

  rest_is : (i : ℕ) → header.rest ≤ i → i < payload_words → word_at bytes i ≡ 0
  rest_is i l m = sym (header_payload bytes i m) ∙ zero_at 0 header.rest payload_words formed.rest i l m

  -- the code blocks, by halves and by words
  half_is : (k : ℕ) → k < 2 * payload_words * code_blocks bytes → code_at bytes k ≡ get_or (code_in bytes) k 0
  unfolding code_in
  half_is = copied_padded (code_at bytes) (code_count bytes) (2 * payload_words * code_blocks bytes) half_zero

  code_is : (i : ℕ) → i < payload_words * code_blocks bytes
      → payload_at bytes (first_code (input_count bytes)) i ≡ get_or (code_in bytes) (2 * i) 0 + 2 ^ 32 * get_or (code_in bytes) (2 * i + 1) 0
  unfolding code_at
  code_is i l =
      let w = payload_at bytes (first_code (input_count bytes)) i in
      let even : 2 * i / 2 ≡ i = omega arith in
      let odd : (2 * i + 1) / 2 ≡ i = omega arith in
      let low : half (2 * i) w ≡ get_or (code_in bytes) (2 * i) 0 = rw even at (half_is (2 * i) (omega arith)) in
      let high : half (2 * i + 1) w ≡ get_or (code_in bytes) (2 * i + 1) 0 = rw odd at (half_is (2 * i + 1) (omega arith)) in
      sym (word_halves w i) ∙ rw (low, high)

  pub memory_is : (i : ℕ) → i < payload_words * memory_blocks bytes → memory_at bytes i ≡ get_or (memory_in bytes) i 0
  unfolding memory_in
  memory_is i l =
      copied_padded (memory_at bytes) (given_count bytes) (payload_words * memory_blocks bytes)
      (zero_at (first_memory bytes) (given_count bytes) (payload_words * memory_blocks bytes) formed.memory) i l
      ∙ sym (get_d_padded (map (memory_at bytes) (from 0 (given_count bytes))) (memory_words - given_count bytes) i)

-- Two of them: what is read from them is the same, and as many memory words are given.
module _ (a b : List ℕ) (ha : job_refusal_of a ≡ none) (hb : job_refusal_of b ≡ none) (same : job_read a ≡ job_read b) (given : given_count a ≡ given_count b) where
  codes : code_in a ≡ code_in b
  codes = unfold job_read in ap (λ (j : JobRead). j.code) same

  intervals : intervals_in a ≡ intervals_in b
  intervals = unfold job_read in ap (λ (j : JobRead). j.intervals) same

  memories : memory_in a ≡ memory_in b
  memories = unfold job_read in ap (λ (j : JobRead). j.memory) same

  as_much_code : code_count a ≡ code_count b
  as_much_code = sym (code_length a) ∙ ap length codes ∙ code_length b

  as_many_inputs : input_count a ≡ input_count b
  as_many_inputs = omega (arith, intervals_length a, intervals_length b, ap length intervals)

  -- the header
  front_same : (k : ℕ) → k < header.lows → word_at a k ≡ word_at b k
  front_same zero l = (formed a ha).mark_word ∙ sym (formed b hb).mark_word
  front_same (suc zero) l = as_much_code
  front_same (suc (suc zero)) l = as_many_inputs
  front_same (suc (suc (suc zero))) l = unfold job_read in ap (λ (j : JobRead). j.limit) same
  front_same (suc (suc (suc (suc zero)))) l = unfold job_read in ap (λ (j : JobRead). j.first) same
  front_same (suc (suc (suc (suc (suc k))))) l = absurd (omega arith)

  ends_same : (place odd : ℕ)
      → ((i : ℕ) → i < most_inputs → word_at a (place + i) ≡ get_or (intervals_in a) (2 * i + odd) 0)
      → ((i : ℕ) → i < most_inputs → word_at b (place + i) ≡ get_or (intervals_in b) (2 * i + odd) 0)
      → (k : ℕ) → place ≤ k → k < place + most_inputs → word_at a k ≡ word_at b k
  ends_same place odd f g k l m =
      let i = k - place in
      let e : place + i ≡ k = omega arith in
      rw e at (f i (omega arith) ∙ ap (λ (v : List ℕ). get_or v (2 * i + odd) 0) intervals ∙ sym (g i (omega arith)))

  header_same : (k : ℕ) → k < payload_words → word_at a k ≡ word_at b k
  header_same k l =
      by_test (ltb k header.lows) (λ t. front_same k (ltb-true k header.lows t))
      (λ t. by_test (ltb k header.highs)
      (λ u. ends_same header.lows 0 (low_is a ha) (low_is b hb) k (ltb-false k header.lows t) (ltb-true k header.highs u))
      (λ u. by_test (ltb k header.given)
      (λ v. ends_same header.highs 1 (high_is a ha) (high_is b hb) k (ltb-false k header.highs u) (ltb-true k header.given v))
      (λ v. by_test (eqb k header.given)
      (λ w. rw (eqb-true k header.given w) given)
      (λ w.
      let past : header.rest ≤ k = omega (arith, ltb-false k header.given v, eqb-false k header.given w) in
      rest_is a ha k past l ∙ sym (rest_is b hb k past l)))))

  -- word r of block q
  word_same : (q r : ℕ) → q < block_count a → r < payload_words → word_at a (q * block_words + r) ≡ word_at b (q * block_words + r)
  word_same q r l m =
      let n = code_blocks a in
      let all = (formed a ha).blocks in
      by_test (eqb q 0)
      (λ t. let z : q * block_words + r ≡ r = omega (arith, eqb-true q 0 t) in rw z (header_same r m))
      (λ t. let some = eqb-false q 0 t in
      by_test (ltb n q)
      (λ u.
      let i = (q - (1 + n)) * payload_words + r in
      let past = ltb-true n q u in
      let z : 1 + n + (q - (1 + n)) ≡ q = omega arith in
      let room : i < payload_words * memory_blocks a = omega arith in
      let first : first_memory b ≡ 1 + n = rw as_much_code in
      let found : memory_at b i ≡ word_at b ((1 + n + (q - (1 + n))) * block_words + r) = rw first (payload_word b (1 + n) (q - (1 + n)) r m) in
      rw z at (sym (payload_word a (1 + n) (q - (1 + n)) r m)
      ∙ memory_is a ha i room
      ∙ ap (λ (v : List ℕ). get_or v i 0) memories
      ∙ sym (memory_is b hb i (rw given at room))
      ∙ found))
      (λ u.
      let i = (q - 1) * payload_words + r in
      let few = ltb-false n q u in
      let z : 1 + (q - 1) ≡ q = omega arith in
      let room : i < payload_words * n = omega arith in
      rw z at (sym (payload_word a 1 (q - 1) r m)
      ∙ code_is a ha i room
      ∙ ap (λ (v : List ℕ). get_or v (2 * i) 0 + 2 ^ 32 * get_or v (2 * i + 1) 0) codes
      ∙ sym (code_is b hb i (rw as_much_code at room))
      ∙ payload_word b 1 (q - 1) r m)))

  pub job_same : Below (2 ^ 8) a → Below (2 ^ 8) b → a ≡ b
  job_same typed typed-again =
      let counts : block_count a ≡ block_count b = (formed a ha).blocks ∙ rw (as_much_code, given) (sym (formed b hb).blocks) in
      let whole = (yes_sized a ha).whole in
      let whole_again = (yes_sized b hb).whole in
      blocks_same a b typed typed-again whole (omega arith) (yes_passed a ha).checks (yes_passed b hb).checks word_same
