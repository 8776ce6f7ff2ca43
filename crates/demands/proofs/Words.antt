-- The numbers of a listed path are words, so they fit its blocks.
-- Assumes nothing.
use mathlib.Core.List.{List, [], ◌∷◌, ◌++◌, flat_map}
use Prim.Native.Nat.{ℕ, zero, suc, ◌+◌, ◌-◌, ◌^◌, ◌≤◌, ◌<◌}
use native.Mathlib.Omega.{arith}
use native.Mathlib.Decide.{dec_lt}
use lib.ListN.{length, get_or, drop, get_or-eq_default}
use lib.Seq.{get_or-drop}
use Rattle.boxes.specs.Boxes.{Choice, Interval, ◌⋯◌, lows, highs, Inside, ◌∈◌}
use Rattle.boxes.proofs.Choices.{inside_at}
use Rattle.riscu.specs.Machine.{start}
use Rattle.riscu.proofs.Counters.{run_pc, run_reads}
use Rattle.listing.specs.Group.{Job, after}
use Rattle.listing.specs.Listing.{Path, listing}
use Rattle.listing.specs.Numbers.{kind_number, reason_number, reason_word}
use Rattle.listing.specs.declared.Reason.{Reason}
use Rattle.listing.specs.declared.Reason.TheVariants.{BothOpen, DivisorOpen, Quotients, BaseOpen, CallOpen}
use Rattle.listing.specs.declared.End.{End}
use Rattle.listing.specs.declared.End.TheVariants.{Exit, BadPc, BadWord, BadAddress, BadCall, StepLimit, NotFollowed, TraceFull}
use Rattle.corners.proofs.Uniform.{whole_after}
use Rattle.corners.proofs.Enough.{listing_steps}
use Rattle.blocks.specs.Layout.{first_places}
use Rattle.blocks.specs.Record.{most_inputs, padded, register_of, exit_word, ends, first_words, second_words}
use Rattle.blocks.proofs.Bytes.{get_d_padded}
use Rattle.blocks.proofs.Reading.{Words, Fits}
use Rattle.calls.specs.Faithful.{Faithful}
use Rattle.demands.proofs.Faithful.{listing_faithful}
use Rattle.demands.proofs.Accepted.{path_inputs, path_registers}
use Rattle.corners.specs.Working.Good.{Sound}

-- small numbers

kind_small : (e : End) → kind_number e < 2 ^ 64
kind_small Exit = omega arith
kind_small BadPc = omega arith
kind_small BadWord = omega arith
kind_small BadAddress = omega arith
kind_small BadCall = omega arith
kind_small StepLimit = omega arith
kind_small (NotFollowed r) = omega arith
kind_small TraceFull = omega arith

reason_number_small : (r : Reason) → reason_number r < 2 ^ 64
reason_number_small BothOpen = omega arith
reason_number_small DivisorOpen = omega arith
reason_number_small Quotients = omega arith
reason_number_small BaseOpen = omega arith
reason_number_small CallOpen = omega arith

-- the words that hang on the end: the reason, and the exit value where register 10 is of words
abbrev Small : Interval → Type 0
Small v = (v.low < 2 ^ 64) × (v.high < 2 ^ 64)

end_small : (e : End) (v : Interval) → Small v → (reason_word e < 2 ^ 64) × Small (exit_word e v.low ⋯ exit_word e v.high)
end_small Exit v h = (omega arith, h)
end_small BadPc v h = omega arith
end_small BadWord v h = omega arith
end_small BadAddress v h = omega arith
end_small BadCall v h = omega arith
end_small StepLimit v h = omega arith
end_small (NotFollowed r) v h = (reason_number_small r, omega arith)
end_small TraceFull v h = omega arith

-- lists of words

record AllWords (l : List ℕ) : Type 0 where
  words : Words l

none_more : AllWords []
none_more = record { words = λ k. omega arith }

infixr 40 ◌then◌
◌then◌ : {x : ℕ} {l : List ℕ} → x < 2 ^ 64 → AllWords l → AllWords (x ∷ l)
◌then◌ {x} {l} p h = record { words = go }
  where
    go : Words (x ∷ l)
    go zero = p
    go (suc k) = h.words k

append_words : (xs ys : List ℕ) → Words xs → Words ys → Words (xs ++ ys)
append_words [] ys h g k = g k
append_words (x ∷ xs) ys h g zero = h 0
append_words (x ∷ xs) ys h g (suc k) = append_words xs ys (λ i. h (suc i)) g k

-- at most 8 of them, padded
infixr 40 ◌padded_then◌
◌padded_then◌ : {ws l : List ℕ} → AllWords ws → AllWords l → AllWords (padded ws ++ l)
◌padded_then◌ {ws} {l} h g =
    record { words = append_words (padded ws) l (λ k. rw (get_d_padded ws (first_places - length ws) k) (h.words k)) g.words }

words_ends : (vs : List Interval) → ((i : ℕ) → Small (get_or vs i (0 ⋯ 0))) → AllWords (ends vs)
unfolding flat_map
words_ends [] h = none_more
words_ends (v ∷ vs) h = (h 0).0 then (h 0).1 then words_ends vs (λ i. h (suc i))

module _ (j : Job) (sound : Sound j j.box) (limit : j.limit < 2 ^ 64) (p : Path) (m : p ∈ listing j) where
  faithful : Faithful j p
  faithful = listing_faithful j sound p m

  inputs : (c : Choice) → Inside c p.box → AllWords c
  inputs c h = record { words = λ k. omega (arith, inside_at j.box c (faithful.inputs c h) k, sound.inputs k) }

  register_small : (r : ℕ) → Small (register_of p r)
  register_small r =
      elim (dec_lt r 32) [
        | yes l ↦ (
            let ((c, h, e), (d, i, f)) = faithful.registers r l in (
              rw e at ((whole_after j j.box sound p.steps c (faithful.inputs c h)).registers.words r),
              rw f at ((whole_after j j.box sound p.steps d (faithful.inputs d i)).registers.words r),
            )
            )
        | no l ↦ (let n : length p.registers ≤ r = omega (arith, path_registers j sound p m) in
            rw (get_or-eq_default p.registers (0 ⋯ 0) n) (omega arith))
      ]

  pc_small : p.pc < 2 ^ 64
  unfolding after start
  pc_small =
      let c = lows p.box in
      let h = run_pc j.code c sound.code (start j.memory) (omega arith) p.steps in
      omega (arith, (faithful.runs c faithful.lowest).pc)

  reads_small : p.reads ≤ p.steps
  unfolding after start
  reads_small =
      let c = lows p.box in
      let h = run_reads j.code c sound.code (start j.memory) (omega arith) p.steps in
      omega (arith, (faithful.runs c faithful.lowest).reads)

  pub path_fits : length j.box ≤ most_inputs → (n : ℕ) → n < 2 ^ 64 → Fits n p
  unfolding first_words second_words
  path_fits r n l =
      let s : p.steps < 2 ^ 64 = omega (arith, listing_steps j sound p m) in
      let i : length p.box ≤ most_inputs = omega (arith, path_inputs j sound p m) in
      let t : length p.box < 2 ^ 64 = omega arith in
      let u : p.reads < 2 ^ 64 = omega (arith, reads_small) in
      let (reason, exit) = end_small p.end (register_of p 10) (register_small 10) in
      let first : AllWords (first_words n p) =
      l then kind_small p.end then pc_small then s then t then inputs (lows p.box) faithful.lowest
      padded_then inputs (highs p.box) faithful.highest padded_then exit.0 then exit.1 then reason then u then none_more in
      let second : AllWords (second_words n p) =
      l then words_ends (drop 1 p.registers) (λ k. rw (get_or-drop 1 p.registers k (0 ⋯ 0)) (register_small (1 + k))) in
      record { inputs = i; registers = path_registers j sound p m; first = first.words; second = second.words }
