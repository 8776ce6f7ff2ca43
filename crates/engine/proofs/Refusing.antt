-- A call that a question refuses leaves report, table and memory as lent, as document 01 says.
-- Assumes nothing.
use mathlib.Core.Path.{◌≡◌}
use mathlib.Core.List.{List}
use mathlib.Core.Option.{some}
use Prim.Native.Nat.{ℕ}
use lib.ListN.{length}
use Rattle.std.specs.Prelude.{Err}
use Rattle.calls.specs.Call.{Call, refusal_of, reply_by, reply_to, table_by, left, called}
use Rattle.calls.specs.declared.Refusal.{Refusal}

pub refused_leaves : {r : Refusal} (memory table : List ℕ) (c : Call) → refusal_of memory (length table) c ≡ some r
    → left (Err r) c.report table memory ≡ called memory table c
unfolding called reply_to reply_by table_by
refused_leaves memory table c e = rw e
