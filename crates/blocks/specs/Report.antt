-- A report as it is read: records of paths with as many inputs, one behind the other.
use Rattle.std.specs.Prelude.{ℕ, ◌*◌, ◌/◌, List, length, take, drop}
use Rattle.blocks.specs.Record.{record_bytes}

-- how many records of n inputs it holds
abbrev pub records_in : ℕ → List ℕ → ℕ
records_in n report = length report / record_bytes n

-- record k
abbrev pub record_at : ℕ → List ℕ → ℕ → List ℕ
record_at n report k = take (record_bytes n) (drop (record_bytes n * k) report)
