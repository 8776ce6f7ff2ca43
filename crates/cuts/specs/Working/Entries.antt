-- A fork in the numbers that the code holds.
use Rattle.std.specs.Prelude.{ℕ, false}
use Rattle.forks.specs.Working.Stack.{Fork}
use Rattle.cuts.specs.declared.entries.Entry.{Entry}

-- as it is pushed: nothing of it is spent
abbrev pub fork_of : ℕ → ℕ → ℕ → ℕ → ℕ → ℕ → Fork
fork_of i l h r s u = record { input = i; low = l; high = h; rest = r; steps = s; used = u; spent = false }

-- as it is read from the table
abbrev pub fork_held : Entry → Fork
fork_held e = record { input = e.input; low = e.low; high = e.high; rest = e.rest; steps = e.steps; used = e.used; spent = e.spent }
