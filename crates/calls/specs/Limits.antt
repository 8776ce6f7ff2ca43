-- The limits of a call that the questions name, beside the machine's and the record's.
use Rattle.std.specs.Prelude.{ℕ, ◌^◌}

abbrev pub most_steps : ℕ
most_steps = 65536

-- 8 words of the table make one entry
abbrev pub entry_words : ℕ
entry_words = 8

-- every path wanted first is below this
abbrev pub first_end : ℕ
first_end = 2 ^ 32
