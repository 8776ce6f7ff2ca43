-- How long the output can be, whatever the words are.
-- Assumes nothing.
use mathlib.Core.Bool.{Bool}
use mathlib.Core.Path.{refl, sym}
use mathlib.Core.List.Memᴰ
use mathlib.Core.List.Memᴰ.{head as here}
use mathlib.Core.List.Memᴰ.{tail as there}
use mathlib.Core.List.{List, [], ◌∷◌, flat_map}
use Prim.Native.Nat.{ℕ, ◌+◌, ◌*◌, ◌≤◌}
use native.Mathlib.Omega.{arith}
use lib.Dec.{eqb}
use lib.ListN.{length, length-append, length-map}
use Rattle.boxes.specs.Boxes.{Box, from, ◌∈◌}
use Rattle.boxes.proofs.Lists.{by_test, length_from}
use Rattle.blocks.specs.Record.{most_inputs}
use Rattle.blocks.specs.Report.{record_at}
use Rattle.blocks.specs.Said.{Said, input_in, said_at, first_said}
use Rattle.calls.specs.Border.{yes_number}
use Rattle.printing.specs.Printed.{word_digits, ascii, field, range, turned_away, first_line, input_text, ending, line, shown, listing_text}
use Rattle.printing.specs.Working.Lengths.{longest_refusal, longest_line, longest}
use Rattle.printing.proofs.Digits.{digits_length}
use Rattle.printing.proofs.Parts.{said_length}

field_length : (name : List ℕ) (n : ℕ) → length (field name n) ≤ length name + word_digits
unfolding field
field_length name n = rw length-append (omega (arith, digits_length n))

range_length : (name : List ℕ) (l h : ℕ) → length (range name l h) ≤ length name + 42
unfolding range
range_length name l h = rw length-append (omega (arith, field_length name l, field_length (ascii "..") h))

pub refusal_length : (n : ℕ) → length (turned_away n) ≤ longest_refusal
unfolding turned_away
refusal_length n = rw length-append (omega (arith, field_length (ascii "turned away ") n))

first_length : (count : ℕ) (more : Bool) → length (first_line count more) ≤ 53
unfolding first_line
first_length count more =
    simp length-append (omega (arith, field_length (ascii "paths ") count, field_length (ascii " more ") (yes_number more)))

inputs_length : (b : Box) → length (flat_map input_text b) ≤ 46 * length b
unfolding flat_map input_text
inputs_length [] = omega arith
inputs_length (v ∷ b) =
    let here = range_length (ascii " in ") v.low v.high in
    let rest = inputs_length b in
    rw length-append (omega arith)

ending_length : (s : Said) → length (ending s) ≤ 48
unfolding ending
ending_length s =
    by_test (eqb s.kind 1)
    (λ e. rw e (range_length (ascii " exit ") s.exit.low s.exit.high))
    (λ e. by_test (eqb s.kind 8)
    (λ f. rw (e, f) (omega (arith, field_length (ascii " reason ") s.reason)))
    (λ f. rw (e, f) (omega arith)))

line_length : (s : Said) → length s.box ≤ most_inputs → length (line s) ≤ longest_line
unfolding line
line_length s few =
    simp length-append (
    omega (
      arith,
      field_length (ascii "path ") s.number,
      field_length (ascii " end ") s.kind,
      field_length (ascii " at ") s.pc,
      field_length (ascii " steps ") s.steps,
      inputs_length s.box,
      ending_length s,
    )
    )

lines_length : (ss : List Said) → ((s : Said) → s ∈ ss → length s.box ≤ most_inputs) → length (flat_map line ss) ≤ longest_line * length ss
unfolding flat_map
lines_length [] h = omega arith
lines_length (s ∷ ss) h =
    let now = line_length s (h s (here refl)) in
    let rest = lines_length ss (λ t m. h t (there m)) in
    rw length-append (omega arith)

pub listing_length : (n count : ℕ) (more : Bool) (report : List ℕ) → n ≤ most_inputs → length (listing_text n count more report) ≤ longest count
unfolding shown
listing_length n count more report few =
    let ss = first_said n count report in
    let inputs : (s : Said) → s ∈ ss → length s.box ≤ most_inputs = λ s m.
    let (k, _, e) = Memᴰ.of_map (said_at n report) (from 0 count) m in
    rw (sym e) (omega (arith, length-map (from 0 n) (input_in n (record_at n report k)), length_from n 0)) in
    rw length-append (omega (arith, said_length n count report, first_length (length ss) more, lines_length ss inputs))
