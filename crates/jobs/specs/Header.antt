-- Document 01's places of the words in a job's header block.
use Rattle.std.specs.Prelude.{ℕ, ◌+◌}

abbrev pub mark : ℕ
mark = 0

-- what it holds
abbrev pub mark_word : ℕ
mark_word = 1

abbrev pub code : ℕ
code = 1

abbrev pub inputs : ℕ
inputs = 2

abbrev pub limit : ℕ
limit = 3

abbrev pub first : ℕ
first = 4

-- 5 to 12 lows, 13 to 20 highs
abbrev pub lows : ℕ
lows = 5

abbrev pub highs : ℕ
highs = 13

abbrev pub given : ℕ
given = 21

-- from here on every word is 0
abbrev pub rest : ℕ
rest = 22

-- the places of input i's low and high, in the header of a job of n inputs
abbrev pub low_at : ℕ → ℕ → ℕ
low_at n i = lows + i

abbrev pub high_at : ℕ → ℕ → ℕ
high_at n i = highs + i
