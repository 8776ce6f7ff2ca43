-- Document 01's places of the words in a path's record; all but the registers stand in its first block.
use Rattle.std.specs.Prelude.{ℕ, ◌+◌}

abbrev pub number : ℕ
number = 0

abbrev pub kind : ℕ
kind = 1

abbrev pub pc : ℕ
pc = 2

abbrev pub steps : ℕ
steps = 3

abbrev pub inputs : ℕ
inputs = 4

-- inputs that a first block has places for: 5 to 12 lows, 13 to 20 highs
abbrev pub first_places : ℕ
first_places = 8

abbrev pub lows : ℕ
lows = 5

abbrev pub highs : ℕ
highs = 13

-- inputs that a record of n inputs has places for
abbrev pub input_places : ℕ → ℕ
input_places n = first_places

-- where the low and the high of input i stand in a record of n inputs
unfoldable pub low_at : ℕ → ℕ → ℕ
low_at n i = lows + i

unfoldable pub high_at : ℕ → ℕ → ℕ
high_at n i = highs + i

abbrev pub exit_low : ℕ
exit_low = 21

abbrev pub exit_high : ℕ
exit_high = 22

abbrev pub reason : ℕ
reason = 23

abbrev pub reads : ℕ
reads = 24

-- from here on every word of the first block is 0
abbrev pub rest : ℕ
rest = 25
