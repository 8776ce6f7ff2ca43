-- `jobs::reading::code_in` meets its contract: word by word.
-- Assumes nothing.
use mathlib.Core.Path.{◌∙◌}
use native.Mathlib.Omega.{arith}
use Rattle.jobs.specs.Job.{code_at, code_in}
use Rattle.jobs.proofs.Copied.{copy_turn, copy_done, copied_over}
use Rattle.jobs.proofs.reading.code_in.Goals as goal

pub loop-k-preserved : goal.loop-k-preserved
loop-k-preserved c = copy_turn 0 _ _ _ _ _ _ _ c.loop-k.invariant (omega arith) (omega arith) c.code_word.ensures

pub returns : goal.returns
unfolding code_in
returns c =
    copy_done 0 _ _ _ _ _ _ _ c.loop-k.invariant (omega arith)
    ∙ copied_over (code_at _) _ _ (omega arith)
