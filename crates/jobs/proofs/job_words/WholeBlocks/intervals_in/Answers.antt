-- `WholeBlocks::intervals_in` meets its contract: word by word.
-- Assumes nothing.
use mathlib.Core.Path.{◌∙◌}
use native.Mathlib.Omega.{arith}
use Rattle.jobs.specs.Job.{interval_at, intervals_in}
use Rattle.jobs.proofs.Copied.{copy_turn, copy_done, copied_over}
use Rattle.jobs.proofs.job_words.WholeBlocks.intervals_in.Goals as goal

pub loop-k-preserved : goal.loop-k-preserved
loop-k-preserved c = copy_turn 0 _ _ _ _ _ _ _ c.loop-k.invariant (omega arith) (omega arith) c.interval_word.ensures

pub returns : goal.returns
unfolding intervals_in
returns c =
    copy_done 0 _ _ _ _ _ _ _ c.loop-k.invariant (omega arith)
    ∙ copied_over (interval_at _) _ _ (omega arith)
