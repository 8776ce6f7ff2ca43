-- The size of a box, multiplied up width by width.
-- Assumes nothing.
use mathlib.Core.Path.{◌≡◌, sym, ap, ◌∙◌}
use mathlib.Core.List.{List, [], ◌∷◌}
use Prim.Native.Nat.{ℕ, suc, ◌+◌, ◌-◌, ◌*◌, ◌^◌, ◌≤◌, ◌<◌}
use native.Mathlib.Nat.{zero-add, mul_assoc, mul-one, one-mul, one-le-mul, mul-le-mul_right, le-mul_of_pos_right}
use native.Mathlib.Numerals.{add-one}
use native.Mathlib.Omega.{arith}
use Rattle.std.specs.Prelude.{Some, None}
use lib.ListN.{length, get_or, drop, length-drop, length-map}
use lib.Seq.{drop-cons}
use borrow.Author.Tests.{lt-ltb, le-ltb}
use Rattle.std.proofs.Math.Nat.{lt_of_not-le}
use Rattle.boxes.specs.Boxes.{Box, Interval, ◌⋯◌, from, width, choices, size}
use Rattle.boxes.specs.Working.Cuts.{Proper}
use Rattle.boxes.proofs.Choices.{size_positive}
use Rattle.boxes.proofs.Lists.{from_at, length_from}
use Rattle.blocks.specs.Said.{input_in, said_in}
use Rattle.counting.specs.Working.Adding.{sized}
use Rattle.counting.proofs.Widths.{size_cons}

-- n is the product of the widths of the intervals before the rest
pub record Multiplied (b rest : Box) (n : ℕ) : Type 0 where
  pub product : n * size rest ≡ size b
  pub some : 1 ≤ n
  pub proper : Proper rest

pub none_multiplied : (b : Box) → (1 * size b ≡ size b) × (1 ≤ 1)
none_multiplied b = (one-mul (size b), omega arith)

pub begin_multiplied : (b : Box) → Proper b → Multiplied b b 1
begin_multiplied b proper = let h = none_multiplied b in record { product = h.0; some = h.1; proper = proper }

pub all_multiplied : (b rest : Box) {n : ℕ} → Multiplied b rest n → length rest ≡ 0 → n ≡ size b
unfolding size choices
all_multiplied b [] {n} m e = sym (mul-one n) ∙ m.product
all_multiplied b (v ∷ rest) m e = absurd (omega arith)

-- the next interval is low to high
module _ (b : Box) {rest more : Box} {n low high : ℕ} (e : rest ≡ (low ⋯ high) ∷ more) (m : Multiplied b rest n) where
  abbrev wide : ℕ
  wide = high - low + 1

  proper_next : Proper ((low ⋯ high) ∷ more)
  proper_next = rw e at m.proper

  pub in_order : low ≤ high
  in_order = proper_next.0

  width_is : width (low ⋯ high) ≡ wide
  unfolding width
  width_is = omega (arith, in_order)

  whole : (n * wide) * size more ≡ size b
  whole =
      mul_assoc n wide (size more)
      ∙ ap (λ (k : ℕ). n * k) (ap (λ (w : ℕ). w * size more) (sym width_is) ∙ sym (size_cons (low ⋯ high) more) ∙ ap size (sym e))
      ∙ m.product

  -- the rest has a choice, so the product so far is no more than the whole
  pub product_fits : n * wide ≤ size b
  product_fits =
      let l = le-mul_of_pos_right (n * wide) (size_positive more proper_next.1) in
      omega (arith, whole)

  pub width_fits : wide ≤ size b
  width_fits =
      let l : 1 * wide ≤ n * wide = mul-le-mul_right wide m.some in
      omega (arith, one-mul wide, product_fits)

  pub one_multiplied : Multiplied b more (n * wide)
  one_multiplied = record { product = whole; some = one-le-mul m.some (omega arith); proper = proper_next.1 }

  -- where the next width or the next product is no word, neither is the whole
  pub wide_over : ¬ (wide < 2 ^ 64) → None ≡ sized (size b)
  wide_over l = rw (le-ltb (size b) (2 ^ 64) (omega (arith, lt_of_not-le {n = suc wide} l, width_fits)))

  pub product_over : ¬ (n * wide < 2 ^ 64) → None ≡ sized (size b)
  product_over l = rw (le-ltb (size b) (2 ^ 64) (omega (arith, lt_of_not-le {n = suc (n * wide)} l, product_fits)))

pub size_fits_lem : (b : Box) {n : ℕ} → n ≡ size b → n < 2 ^ 64 → Some n ≡ sized (size b)
size_fits_lem b {n} e l = ap (λ (k : ℕ). Some k) e ∙ rw (lt-ltb (size b) (2 ^ 64) (omega arith))

-- the box of a record
module _ (n : ℕ) (bytes : List ℕ) where
  abbrev box : Box
  box = (said_in n bytes).box

  record_length : length box ≡ n
  record_length = length-map (from 0 n) (input_in n bytes) ∙ length_from n 0

  pub next_interval : (i : ℕ) {low high : ℕ} → i < n → low ≡ (input_in n bytes i).low → high ≡ (input_in n bytes i).high
      → drop i box ≡ (low ⋯ high) ∷ drop (i + 1) box
  next_interval i h l r =
      let v : get_or box i (0 ⋯ 0) ≡ input_in n bytes i = from_at (input_in n bytes) (0 ⋯ 0) n 0 i h ∙ ap (input_in n bytes) (zero-add i) in
      rw (add-one i) (drop-cons box i (0 ⋯ 0) (omega (arith, record_length)) ∙ ap (λ (w : Interval). w ∷ drop (suc i) box) (v ∙ (λ q. sym l q ⋯ sym r q)))

  pub none_left : (i : ℕ) → n ≤ i → length (drop i box) ≡ 0
  none_left i h = omega (arith, length-drop i box, record_length)
