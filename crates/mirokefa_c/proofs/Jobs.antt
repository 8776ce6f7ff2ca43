-- The jobs that `mirokefa_write` wrote: `mirokefa_serve` explores the values that they were written from.
-- Assumes nothing.
use mathlib.Core.Path.{◌≡◌}
use mathlib.Core.List.{List}
use Prim.Native.Nat.{ℕ}
use Rattle.calls.specs.Call.{reply_to}
use Rattle.jobs.specs.Job.{JobRead, call_for}
use Rattle.serving.specs.Served.{table_words, served_by, served}
use Rattle.writing.specs.Form.{job_form}
use Rattle.writing.specs.Written.{TypedValues, Passes}
use Rattle.writing.proofs.Forms.{read_back}

pub write_served : (j : JobRead) → TypedValues j → Passes j → (report : List ℕ) →
    served (job_form j) report ≡ reply_to j.memory table_words (call_for j report)
unfolding served served_by
write_served j typed passed report = let b = read_back j typed passed in rw (b.accepted, b.same)
