-- A text on a lent slice, from its start on, as far as it fits.
use Rattle.std.specs.Prelude.{ℕ, min, List, ◌++◌, length, take, drop}

-- what a text leaves of a slice, and how many of its bytes stand there

abbrev pub fitted : List ℕ → List ℕ → List ℕ
fitted text out = take (length out) text ++ drop (length text) out

abbrev pub fitting : List ℕ → List ℕ → ℕ
fitting text out = min (length text) (length out)
