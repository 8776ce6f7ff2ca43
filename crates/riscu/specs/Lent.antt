-- A list that is lent to a function, in its contract.
use Rattle.std.specs.Prelude.{List, ℕ}
use Rattle.std.specs.Borrow.{Bor, MutBor}
use denote.Triple.Both.{Both}

-- as an `ensures` names it: what it holds at the call, and at the return
abbrev pub LentList : Type 0
LentList = Both (Bor (List ℕ)) (Bor (List ℕ))

-- the same of a list that is lent to be written
abbrev pub LentMut : Type 0
LentMut = Both (MutBor (List ℕ)) (MutBor (List ℕ))

-- what it holds at the call
abbrev pub lent : LentList → List ℕ
lent x = x.entry.now

-- what it holds at the return
abbrev pub returned : LentList → List ℕ
returned x = x.exit.now
