-- Text in bytes: hex digits, and the number and the line that start at a place.
use Rattle.std.specs.Prelude.{ℕ, suc, ◌+◌, ◌-◌, ◌*◌, ◌%◌, ◌^◌, ◌≤◌, ◌≡◌, cond, List, [], ◌∷◌, ltb, eqb, length, take, drop}

-- a number, and the place after the byte that ends it
pub record Number : Type 0 where
  pub value : ℕ
  pub next : ℕ

-- 0 to 9 and a to f; every other byte is 16
unfoldable pub digit_of : ℕ → ℕ
digit_of b = cond (ltb b 48) 16 (cond (ltb b 58) (b - 48) (cond (ltb b 97) 16 (cond (ltb b 103) (b - 87) 16)))

-- the digits at the front of a text, after v, at place i
unfoldable pub number_from : List ℕ → ℕ → ℕ → Number
number_from [] v i = record { value = v; next = i }
number_from (b ∷ bs) v i =
    cond (ltb 15 (digit_of b)) (record { value = v; next = suc i }) (number_from bs (v % 2 ^ 60 * 16 + digit_of b) (suc i))

-- the place of the first line feed of a text that starts at place i, or of its end
unfoldable pub line_from : List ℕ → ℕ → ℕ
line_from [] i = i
line_from (b ∷ bs) i = cond (eqb b 10) i (line_from bs (suc i))

-- r ends the line of s that starts at i: no place before i, nor past the end where i is none
pub record Ends (s : List ℕ) (i r : ℕ) : Type 0 where
  pub is : r ≡ line_from (drop i s) i
  pub after : i ≤ r
  pub within : i ≤ length s → r ≤ length s

-- line is the first line of s, and rest is what stands behind it and its line feed
pub record IsFirstLine (s line rest : List ℕ) : Type 0 where
  pub ends : Ends s 0 (length line)
  pub is : line ≡ take (length line) s
  pub behind : rest ≡ drop (suc (length line)) s
