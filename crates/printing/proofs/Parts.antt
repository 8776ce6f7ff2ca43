-- A path's line by its parts, an input, the end by its kind, the numbers in front; a listing by its first line and the others.
-- Assumes nothing.
use mathlib.Core.Path.{◌≡◌, ◌∙◌}
use mathlib.Core.Bool.{Bool}
use mathlib.Core.List.{List, ◌++◌, flat_map}
use Prim.Native.Nat.{ℕ}
use lib.ListN.{length, length-map}
use borrow.Author.Tests.{eq-eqb, ne_eqb}
use Rattle.boxes.specs.Boxes.{Interval, from}
use Rattle.boxes.proofs.Lists.{length_from}
use Rattle.blocks.specs.Said.{Said, said_at, first_said}
use Rattle.calls.specs.Border.{yes_number}
use Rattle.printing.specs.Printed.{ascii, field, range, first_line, input_text, ending, line, shown, listing_text}
use Rattle.printing.specs.Working.Writing.{Output, write}

pub input_is : (v : Interval) {low high : ℕ} → low ≡ v.low → high ≡ v.high → range (ascii " in ") low high ≡ input_text v
unfolding input_text
input_is v l h = rw (l, h)

module _ (s : Output) (r : Said) {kind : ℕ} (k : kind ≡ r.kind) where
  pub exit_end : {u : Output} {low high : ℕ} → kind ≡ 1 → low ≡ r.exit.low → high ≡ r.exit.high → u ≡ write s (range (ascii " exit ") low high) → u ≡ write s (ending r)
  unfolding ending
  exit_end h l m e = rw (eq-eqb r.kind 1 (cc), ← l, ← m) e

  pub reason_end : {u : Output} {reason : ℕ} → (kind ≡ 1 → ⊥) → kind ≡ 8 → reason ≡ r.reason → u ≡ write s (field (ascii " reason ") reason) → u ≡ write s (ending r)
  unfolding ending
  reason_end n h q e = rw (ne_eqb r.kind 1 (rw (← k) n), eq-eqb r.kind 8 (cc), ← q) e

  pub no_end : (kind ≡ 1 → ⊥) → (kind ≡ 8 → ⊥) → s ≡ write s (ending r)
  unfolding ending write
  no_end n m = rw (ne_eqb r.kind 1 (rw (← k) n), ne_eqb r.kind 8 (rw (← k) m))

pub line_is : (s : Said) {number kind pc steps : ℕ} → number ≡ s.number → kind ≡ s.kind → pc ≡ s.pc → steps ≡ s.steps
    → field (ascii "path ") number ++ (field (ascii " end ") kind ++ (field (ascii " at ") pc ++ (field (ascii " steps ") steps
    ++ (flat_map input_text s.box ++ (ending s ++ ascii "\n"))))) ≡ line s
unfolding line
line_is s n k p t = rw (n, k, p, t)

pub said_length : (n count : ℕ) (report : List ℕ) → length (first_said n count report) ≡ count
said_length n count report = length-map (from 0 count) (said_at n report) ∙ length_from count 0

pub listing_is : (n count : ℕ) (more : Bool) (report : List ℕ) {yes : ℕ} → yes ≡ yes_number more
    → (field (ascii "paths ") count ++ (field (ascii " more ") yes ++ ascii "\n")) ++ flat_map line (first_said n count report) ≡ listing_text n count more report
unfolding shown first_line
listing_is n count more report e = rw (said_length n count report, e)
