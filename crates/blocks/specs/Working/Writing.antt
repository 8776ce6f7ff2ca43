-- What the code's contracts use beside the definitions: bytes put into a list, and the path of a call's arguments.
use Rattle.std.specs.Prelude.{ℕ, ◌+◌, List, ◌++◌, length, take, drop}
use Rattle.boxes.specs.Working.Cuts.{box_in}
use Rattle.riscu.specs.Lent.{LentList}
use Rattle.listing.specs.Listing.{Path}
use Rattle.blocks.specs.Record.{record_bytes, record_of}
use Rattle.blocks.specs.declared.record.Ended.{Ended}

-- the list with other elements from a place on
unfoldable pub put : List ℕ → ℕ → List ℕ → List ℕ
put l at xs = take at l ++ xs ++ drop (at + length xs) l

-- lows and highs of the inputs, and of the registers
abbrev pub path_in : Ended → List ℕ → List ℕ → List ℕ → List ℕ → Path
path_in p ls hs rls rhs =
    record { end = p.end; pc = p.pc; steps = p.steps; box = box_in ls hs; reads = p.reads; registers = box_in rls rhs }

-- the path of what is lent at the call
abbrev pub path_lent : Ended → LentList → LentList → LentList → LentList → Path
path_lent p ls hs rls rhs = path_in p ls.entry.now hs.entry.now rls.entry.now rhs.entry.now

-- a report with the record of path n from a place on
abbrev pub with_path : List ℕ → ℕ → ℕ → Path → List ℕ
with_path report at n p = take at report ++ record_of n p ++ drop (at + record_bytes (length p.box)) report
