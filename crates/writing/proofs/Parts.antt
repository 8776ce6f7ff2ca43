-- The blocks of a part: how many bytes they are, which words they hold, that every check agrees, and how they come to be written.
-- Assumes nothing.
use mathlib.Core.Path.{◌≡◌, refl, sym, ap, ◌∙◌}
use mathlib.Core.List.{List, [], ◌∷◌, ◌++◌, append_assoc, flat_map}
use Prim.Native.Nat.{ℕ, zero, suc, min, ◌+◌, ◌-◌, ◌*◌, ◌/◌, ◌%◌, ◌^◌, ◌≤◌, ◌<◌}
use native.Mathlib.Numerals.{add-one}
use native.Mathlib.Omega.{arith}
use denote.Ref.{Bor}
use Rattle.std.specs.declared.slice.Chunks.{Chunks}
use Rattle.std.specs.declared.option.Option.TheVariants.{Some, None}
use Rattle.std.specs.Slice.Iter.{chunks_size, chunks_rest, chunks_steps}
use Rattle.std.proofs.lemmas.List.{drop-drop}
use lib.ListN.{length, get_or, take, drop, length-append, length-take, length-drop}
use lib.Seq.{get_or-take, get_or-drop}
use Rattle.boxes.specs.Boxes.{from}
use Rattle.blocks.specs.Block.{block_words, block_bytes, payload_words, word_at, checks_agree}
use Rattle.blocks.specs.Working.Writing.{put}
use Rattle.blocks.proofs.Bytes.{block_length, word_left, word_right}
use Rattle.blocks.proofs.Checks.{checks_block}
use Rattle.blocks.proofs.Puts.{put_none, put_put}
use Rattle.blocks.proofs.Reading.{Words, block_word}
use Rattle.jobs.specs.Job.{blocks_for, payload_at}
use Rattle.writing.specs.Form.{part_block, part_blocks}
use Rattle.writing.proofs.Stores.{take_below, drop_below}

-- the words of block b, and the n blocks from b on
abbrev part_words : List ℕ → ℕ → List ℕ
part_words ws b = take payload_words (drop (b * payload_words) ws)

abbrev pub blocks_from : List ℕ → ℕ → ℕ → List ℕ
blocks_from ws b n = flat_map (part_block ws) (from b n)

module _ (ws : List ℕ) where
  few : (b : ℕ) → length (part_words ws b) ≤ payload_words
  few b = rw length-take (omega arith)

  block_size : (b : ℕ) → length (part_block ws b) ≡ block_bytes
  block_size b = block_length (part_words ws b) (few b)

  from_length : (n b : ℕ) → length (blocks_from ws b n) ≡ block_bytes * n
  unfolding from flat_map
  from_length zero b = refl
  from_length (suc n) b =
      omega (arith, length-append (part_block ws b) (blocks_from ws (suc b) n), block_size b, from_length n (suc b))

  pub part_length : length (part_blocks ws) ≡ block_bytes * blocks_for (length ws)
  unfolding part_blocks
  part_length = from_length (blocks_for (length ws)) 0

  -- A turn of the loop that writes them: what is still to be written onto the bytes at hand gives the result.
  module _ (l : List ℕ) (at n : ℕ) where
    abbrev pub Putting : List ℕ → ℕ → Type 0
    Putting bs b = (b ≤ n) × (length bs ≡ length l) × (put bs (at + b * block_bytes) (blocks_from ws b (n - b)) ≡ put l at (blocks_from ws 0 n))

    pub put_turn : (bs : List ℕ) (b : ℕ) {bs' : List ℕ} → Putting bs b → b < n → at + n * block_bytes ≤ length l → length bs' ≡ length bs
        → bs' ≡ put bs (at + b * block_bytes) (part_block ws b) → Putting bs' (b + 1)
    put_turn bs b {bs'} p h room same e = (omega arith, same ∙ p.1, turn ∙ p.2)
      where
        turn : put bs' (at + (b + 1) * block_bytes) (blocks_from ws (b + 1) (n - (b + 1))) ≡ put bs (at + b * block_bytes) (blocks_from ws b (n - b))
        turn =
            unfold from flat_map in
            let more : n - b ≡ suc (n - suc b) = omega arith in
            let next : at + (b + 1) * block_bytes ≡ at + b * block_bytes + length (part_block ws b) = omega (arith, block_size b) in
            let fits : at + b * block_bytes + length (part_block ws b) ≤ length bs = omega (arith, block_size b) in
            rw (e, next, add-one b, more) (put_put bs (at + b * block_bytes) (part_block ws b) fits (blocks_from ws (suc b) (n - suc b)))

    pub put_done : (bs : List ℕ) (b : ℕ) → Putting bs b → n ≤ b → bs ≡ put l at (blocks_from ws 0 n)
    put_done bs b p h =
        unfold from flat_map in
        let z : n - b ≡ 0 = omega arith in
        sym (put_none bs (at + b * block_bytes)) ∙ rw z at p.2

-- a chunk is the front of the words that are left
chunk_front : (n : ℕ) (p r : List ℕ) → length p ≡ min n (length (p ++ r)) → (p ≡ take n (p ++ r)) × (r ≡ drop n (p ++ r))
chunk_front zero [] r e = (refl, refl)
chunk_front zero (x ∷ p) r e = absurd (omega arith)
chunk_front (suc n) [] [] e = (refl, refl)
chunk_front (suc n) [] (y ∷ r) e = absurd (omega arith)
chunk_front (suc n) (x ∷ p) r e =
    let h = chunk_front n p r (omega arith) in
    (ap (λ (l : List ℕ). x ∷ l) h.0, h.1)

-- the chunks of 63 words that are left when b were taken
module _ (ws : List ℕ) where
  pub record Chunked (b : ℕ) (s : Chunks ℕ) : Type 0 where
    pub most : chunks_size s ≡ payload_words
    pub left : chunks_rest s ≡ drop (b * payload_words) ws

  pub chunk_more : {b : ℕ} {s t : Chunks ℕ} (p : Bor (List ℕ)) → Chunked b s → chunks_steps s (Some p) t
      → (p.now ≡ take payload_words (drop (b * payload_words) ws)) × (b < blocks_for (length ws)) × Chunked (b + 1) t
  chunk_more {b} {s} {t} p c h =
      let r = chunks_rest t in
      let few : length p.now ≡ min payload_words (length (p.now ++ r)) = rw (c.most, h.1.0) at h.1.1 in
      let e = sym h.1.0 ∙ c.left in
      let f = chunk_front payload_words p.now r few in
      let next : (b + 1) * payload_words ≡ b * payload_words + payload_words = omega arith in (
        f.0 ∙ ap (λ (l : List ℕ). take payload_words l) e,
        omega (arith, h.1.2, ap length c.left, length-drop (b * payload_words) ws),
        record {
          most = h.0 ∙ c.most;
          left = f.1 ∙ ap (λ (l : List ℕ). drop payload_words l) e ∙ rw next (drop-drop payload_words (b * payload_words) ws);
        },
      )

  pub chunk_end : {b : ℕ} {s t : Chunks ℕ} → Chunked b s → chunks_steps s None t → blocks_for (length ws) ≤ b
  chunk_end {b} c h = omega (arith, h.1.0, ap length c.left, length-drop (b * payload_words) ws)

-- words below 2^64
module _ (ws : List ℕ) (words : Words ws) where
  part_word : (b r : ℕ) → r < payload_words → get_or (part_words ws b) r 0 ≡ get_or ws (b * payload_words + r) 0
  part_word b r l = get_or-take payload_words (drop (b * payload_words) ws) r 0 l ∙ get_or-drop (b * payload_words) ws r 0

  part_words_lem : (b : ℕ) → Words (part_words ws b)
  part_words_lem b = take_below (2 ^ 64) payload_words (drop (b * payload_words) ws) (omega arith) (drop_below (2 ^ 64) (b * payload_words) ws words)

  pub checks_from : (n b : ℕ) (rest : List ℕ) → checks_agree (blocks_from ws b n ++ rest) ≡ checks_agree rest
  unfolding from flat_map
  checks_from zero b rest = refl
  checks_from (suc n) b rest =
      rw append_assoc
      (checks_block (part_words ws b) (blocks_from ws (suc b) n ++ rest) (few ws b) (part_words_lem b) ∙ checks_from n (suc b) rest)

  -- word r of the block that is q further on
  word_in : (n b q r : ℕ) (rest : List ℕ) → q < n → r < payload_words
      → word_at (blocks_from ws b n ++ rest) (q * block_words + r) ≡ get_or ws ((b + q) * payload_words + r) 0
  unfolding from flat_map
  word_in zero b q r rest l m = absurd (omega arith)
  word_in (suc n) b zero r rest l m =
      let z : 0 * block_words + r ≡ r = omega arith in
      let y : b + 0 ≡ b = omega arith in
      rw (append_assoc, z, y)
      (word_left (part_block ws b) (blocks_from ws (suc b) n ++ rest) r (omega (arith, block_size ws b))
      ∙ block_word (part_words ws b) (few ws b) (part_words_lem b) r m
      ∙ part_word b r m)
  word_in (suc n) b (suc q) r rest l m =
      let z : suc q * block_words + r ≡ block_words + (q * block_words + r) = omega arith in
      let y : b + suc q ≡ suc b + q = omega arith in
      rw (append_assoc, z, y)
      (word_right (part_block ws b) (blocks_from ws (suc b) n ++ rest) block_words (q * block_words + r) (block_size ws b)
      ∙ word_in n (suc b) q r rest (omega arith) m)

  -- the payload words of a part that begins with block b are its words, and then 0
  pub payload_part : (front rest : List ℕ) (b i : ℕ) → length front ≡ b * block_bytes → i < payload_words * blocks_for (length ws)
      → payload_at (front ++ (part_blocks ws ++ rest)) b i ≡ get_or ws i 0
  unfolding payload_at part_blocks
  payload_part front rest b i e l =
      let n = blocks_for (length ws) in
      let z : (b + i / payload_words) * block_words + i % payload_words ≡ b * block_words + (i / payload_words * block_words + i % payload_words) = omega arith in
      let y : (0 + i / payload_words) * payload_words + i % payload_words ≡ i = omega arith in
      rw z
      (word_right front (blocks_from ws 0 n ++ rest) (b * block_words) (i / payload_words * block_words + i % payload_words) (omega arith)
      ∙ rw y at (word_in n 0 (i / payload_words) (i % payload_words) rest (omega arith) (omega arith)))
