-- A text written on a lent slice byte after byte, as far as it fits: what the contracts inside name.
use Rattle.std.specs.Prelude.{◌≡◌, ℕ, ◌+◌, cond, List, [], ◌∷◌, ltb, length, set}
use Rattle.riscu.specs.Lent.{LentMut}
use Rattle.printing.specs.Output.{fitted, fitting}

-- the slice, and where the next byte goes
pub record Output : Type 0 where
  pub bytes : List ℕ
  pub used : ℕ

abbrev pub output : List ℕ → ℕ → Output
output bytes used = record { bytes = bytes; used = used }

-- one byte more, if it fits
unfoldable pub push : Output → ℕ → Output
push s b = cond (ltb s.used (length s.bytes)) (output (set s.bytes s.used b) (s.used + 1)) s

unfoldable pub write : Output → List ℕ → Output
write s [] = s
write s (b ∷ bs) = write (push s b) bs

-- a text is written on a lent slice from a place on, and r is where the next byte goes
abbrev pub Writes : LentMut → ℕ → ℕ → List ℕ → Type 0
Writes out at r text = output out.exit.now r ≡ write (output out.entry.now at) text

-- a whole text is written on a lent slice, and r is how many of its bytes stand there
abbrev pub Prints : LentMut → ℕ → List ℕ → Type 0
Prints out r text = (out.exit.now ≡ fitted text out.entry.now) × (r ≡ fitting text out.entry.now)
