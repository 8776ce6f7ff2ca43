-- The words of the inputs: the low and the high of each, stored at their places.
-- Assumes nothing.
use mathlib.Core.Path.{◌≡◌, refl, ap, ◌∙◌}
use mathlib.Core.List.{List, [], ◌∷◌}
use Prim.Native.Nat.{ℕ, suc, ◌+◌, ◌*◌, ◌^◌, ◌<◌, ◌≤◌}
use native.Mathlib.Numerals.{add-one}
use native.Mathlib.Omega.{arith}
use denote.Ref.{Bor}
use Rattle.std.specs.declared.slice.ChunksExact.{ChunksExact}
use Rattle.std.specs.declared.option.Option.TheVariants.{Some, None}
use Rattle.std.specs.Slice.Iter.{chunks_exact_size, chunks_exact_rest, chunks_exact_steps}
use lib.ListN.{length, get_or, set, length-set, length-map, get_or-map}
use lib.Seq.{sets, set_comm, get_or-set_other}
use Rattle.boxes.specs.Boxes.{Interval, Box, ◌⋯◌, lows, highs}
use Rattle.blocks.specs.Record.{most_inputs}
use Rattle.blocks.proofs.Reading.{Words}
use Rattle.calls.specs.Call.{box_of}
use Rattle.calls.proofs.Pairs.{pairs_length, pair_at, box_short, box_more}
use Rattle.jobs.specs.Header as header
use Rattle.writing.specs.Form.{stored_inputs}
use Rattle.writing.proofs.Stores.{set_below}

-- a word behind a run of stores may be stored before them
set_behind : (vs l : List ℕ) (i k x : ℕ) → i + length vs ≤ k → sets (set l k x) i vs ≡ set (sets l i vs) k x
set_behind [] l i k x h = refl
set_behind (v ∷ vs) l i k x h =
    ap (λ (w : List ℕ). sets w (suc i) vs) (set_comm l k i x v (λ e. absurd (omega arith)))
    ∙ set_behind vs (set l i v) (suc i) k x (omega arith)

module _ (n : ℕ) where
  -- as many words as before, and those before the inputs' are as they were

  pub inputs_length : (b : Box) (i : ℕ) (ws : List ℕ) → length (stored_inputs n i b ws) ≡ length ws
  unfolding stored_inputs
  inputs_length [] i ws = refl
  inputs_length (v ∷ b) i ws =
      inputs_length b (suc i) _ ∙ length-set (set ws (header.low_at n i) v.low) (header.high_at n i) v.high ∙ length-set ws (header.low_at n i) v.low

  pub inputs_before : (b : Box) (i : ℕ) (ws : List ℕ) (k : ℕ) → k < header.lows → get_or (stored_inputs n i b ws) k 0 ≡ get_or ws k 0
  unfolding stored_inputs
  inputs_before [] i ws k h = refl
  inputs_before (v ∷ b) i ws k h =
      inputs_before b (suc i) _ k h
      ∙ get_or-set_other (set ws (header.low_at n i) v.low) (header.high_at n i) k v.high 0 (λ e. absurd (omega arith))
      ∙ get_or-set_other ws (header.low_at n i) k v.low 0 (λ e. absurd (omega arith))

  -- every word is one of 64 bits, if those of the intervals are
  pub inputs_below : (v : List ℕ) (i : ℕ) (ws : List ℕ) → Words v → Words ws → Words (stored_inputs n i (box_of v) ws)
  unfolding stored_inputs box_of
  inputs_below [] i ws h g = g
  inputs_below (l ∷ []) i ws h g = g
  inputs_below (l ∷ (x ∷ v)) i ws h g =
      inputs_below v (suc i) _ (λ k. h (suc (suc k)))
      (set_below (2 ^ 64) (set ws (header.low_at n i) l) (header.high_at n i) x (set_below (2 ^ 64) ws (header.low_at n i) l g (h 0)) (h 1))

  -- at most 8 inputs: all lows in a row, and then all highs
  pub inputs_rows : (b : Box) (i : ℕ) (ws : List ℕ) → i + length b ≤ most_inputs
      → stored_inputs n i b ws ≡ sets (sets ws (header.low_at n i) (lows b)) (header.high_at n i) (highs b)
  unfolding stored_inputs
  inputs_rows [] i ws h = refl
  inputs_rows (v ∷ b) i ws h =
      let l = header.low_at n i in
      let k = header.high_at n i in
      let next_low : header.low_at n (suc i) ≡ suc l = omega arith in
      let next_high : header.high_at n (suc i) ≡ suc k = omega arith in
      let few : suc l + length (lows b) ≤ k = rw length-map (omega arith) in
      inputs_rows b (suc i) _ (omega arith)
      ∙ rw (next_low, next_high) (ap (λ (w : List ℕ). sets w (suc k) (highs b)) (set_behind (lows b) (set ws l v.low) (suc l) k v.high few))

-- of the words of the intervals
module _ (v : List ℕ) where
  pub low_end : (i : ℕ) → i < length (box_of v) → get_or (lows (box_of v)) i 0 ≡ get_or v (2 * i + 0) 0
  low_end i h = get_or-map (λ (d : Interval). d.low) (box_of v) i (0 ⋯ 0) ∙ ap (λ (d : Interval). d.low) (pair_at v i h)

  pub high_end : (i : ℕ) → i < length (box_of v) → get_or (highs (box_of v)) i 0 ≡ get_or v (2 * i + 1) 0
  high_end i h = get_or-map (λ (d : Interval). d.high) (box_of v) i (0 ⋯ 0) ∙ ap (λ (d : Interval). d.high) (pair_at v i h)

-- A turn of the loop that stores them: what is still to be stored onto the words at hand gives the result.
module _ (n : ℕ) (all : List ℕ) where
  pub record Storing (ws : List ℕ) (i : ℕ) (s : ChunksExact ℕ) : Type 0 where
    pub pairs_of : chunks_exact_size s ≡ 2
    pub few : i + length (box_of (chunks_exact_rest s)) ≤ most_inputs
    pub still : stored_inputs n i (box_of (chunks_exact_rest s)) ws ≡ all

  pub storing_none : {ws : List ℕ} (s : ChunksExact ℕ) (v : List ℕ) → chunks_exact_size s ≡ 2 → chunks_exact_rest s ≡ v → length v ≤ 2 * most_inputs
      → stored_inputs n 0 (box_of v) ws ≡ all → Storing ws 0 s
  storing_none s v two e few still = record { pairs_of = two; few = rw e (omega (arith, pairs_length v)); still = rw e still }

  pub storing_more : {ws : List ℕ} {i : ℕ} {s t : ChunksExact ℕ} (p : Bor (List ℕ)) → Storing ws i s → chunks_exact_steps s (Some p) t
      → Storing (set (set ws (header.low_at n i) (get_or p.now 0 0)) (header.high_at n i) (get_or p.now 1 0)) (i + 1) t
  unfolding stored_inputs
  storing_more {ws} {i} {s} {t} p c h =
      let more = ap box_of h.1.0 ∙ box_more p.now (chunks_exact_rest t) (h.1.1 ∙ c.pairs_of) in
      record {
        pairs_of = h.0 ∙ c.pairs_of;
        few = omega (arith, ap (λ (b : Box). length b) more, c.few);
        still = rw (add-one i) (rw more at c.still);
      }

  pub storing_done : {ws : List ℕ} {i : ℕ} {s t : ChunksExact ℕ} → Storing ws i s → chunks_exact_steps s None t → ws ≡ all
  unfolding stored_inputs
  storing_done {ws} {i} {s} c h = none (box_of (chunks_exact_rest s)) (box_short (chunks_exact_rest s) (omega (arith, h.1.0, c.pairs_of))) ∙ c.still
    where
      none : (b : Box) → length b ≡ 0 → ws ≡ stored_inputs n i b ws
      none [] e = refl
      none (v ∷ b) e = absurd (omega arith)
