use Rattle.serving.proofs.JobPassed.{explored_reply}
use lib.ListN.{length-replicate}
use Prim.Native.Nat.{ℕ}
use Rattle.serving.specs.Served.{table_words}
use Rattle.serving.proofs.explore_read.Goals as goal

pub returns : goal.returns
returns c = explored_reply _ _ _ _ _ _ c.explore.ensures (length-replicate {A = ℕ} table_words 0)
