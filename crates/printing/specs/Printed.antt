-- The program's output: `turned away N`, or the listing, its lines from what the report's records say.
use Rattle.std.specs.Prelude.{ℕ, zero, suc, ◌+◌, ◌/◌, ◌%◌, Bool, cond, ltb, eqb, length}
use Prim.Native.Char.{code}
use Prim.Native.String.{String, [] as ε, ◌∷◌ as ◌▸◌}
use mathlib.Core.List.{List, [], ◌∷◌, ◌++◌, flat_map}
use Rattle.boxes.specs.Boxes.{Interval}
use Rattle.blocks.specs.Said.{Said, first_said}
use Rattle.calls.specs.Border.{yes_number}

-- A word in base ten, in ASCII, the most significant digit first.

abbrev pub digit : ℕ → ℕ
digit d = 48 + d

-- the last k digits, with no zeros in front
unfoldable pub digits_in : ℕ → ℕ → List ℕ
digits_in zero n = []
digits_in (suc k) n = cond (ltb n 10) (digit n ∷ []) (digits_in k (n / 10) ++ (digit (n % 10) ∷ []))

-- MAX has 20 digits
abbrev pub word_digits : ℕ
word_digits = 20

unfoldable pub digits : ℕ → List ℕ
digits n = digits_in word_digits n

-- the bytes of a text
abbrev pub ascii : String → List ℕ
ascii ε = []
ascii (c ▸ s) = code c ∷ ascii s

unfoldable pub field : List ℕ → ℕ → List ℕ
field name n = name ++ digits n

-- LO..HI
unfoldable pub range : List ℕ → ℕ → ℕ → List ℕ
range name low high = field name low ++ field (ascii "..") high

unfoldable pub turned_away : ℕ → List ℕ
turned_away n = field (ascii "turned away ") n ++ ascii "\n"

unfoldable pub first_line : ℕ → Bool → List ℕ
first_line count more = field (ascii "paths ") count ++ (field (ascii " more ") (yes_number more) ++ ascii "\n")

-- From what a record says.

-- an input's low and high
unfoldable pub input_text : Interval → List ℕ
input_text v = range (ascii " in ") v.low v.high

-- `exit` only for kind 1; ` reason R` ends a kind 8 line
unfoldable pub ending : Said → List ℕ
ending s =
    cond (eqb s.kind 1) (range (ascii " exit ") s.exit.low s.exit.high)
    (cond (eqb s.kind 8) (field (ascii " reason ") s.reason) [])

-- a path's line: number, kind, pc and steps, once per input its interval, and the end
unfoldable pub line : Said → List ℕ
line s =
    field (ascii "path ") s.number
    ++ (field (ascii " end ") s.kind
    ++ (field (ascii " at ") s.pc
    ++ (field (ascii " steps ") s.steps
    ++ (flat_map input_text s.box
    ++ (ending s
    ++ ascii "\n")))))

-- a listing, and that of the first records of a report of n inputs
unfoldable pub shown : List Said → Bool → List ℕ
shown ss more = first_line (length ss) more ++ flat_map line ss

abbrev pub listing_text : ℕ → ℕ → Bool → List ℕ → List ℕ
listing_text n count more report = shown (first_said n count report) more
