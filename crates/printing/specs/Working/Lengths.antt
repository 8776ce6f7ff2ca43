-- How long an output can be.
use Rattle.std.specs.Prelude.{ℕ, ◌+◌, ◌*◌}
use Rattle.blocks.specs.Record.{most_inputs}

-- No output is longer: numbers have at most 20 digits.

abbrev pub longest_refusal : ℕ
longest_refusal = 33

-- 101 bytes up to the steps, 46 for each input, 48 for an exit, and the line feed
abbrev pub longest_line : ℕ
longest_line = 101 + 46 * most_inputs + 48 + 1

abbrev pub longest : ℕ → ℕ
longest count = 53 + longest_line * count
