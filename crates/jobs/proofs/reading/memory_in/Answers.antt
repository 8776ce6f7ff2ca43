-- `jobs::reading::memory_in` meets its contract: word by word, onto zeros.
-- Assumes nothing.
use mathlib.Core.Path.{ap, ◌∙◌}
use native.Mathlib.Omega.{arith}
use Rattle.riscu.specs.Limits.{memory_words}
use Rattle.jobs.specs.Job.{code_payload, blocks_for, memory_at, memory_in}
use Rattle.jobs.proofs.Copied.{copy_turn, copy_done, copied_zeros}
use Rattle.jobs.proofs.reading.memory_in.Goals as goal

pub loop-k-preserved : goal.loop-k-preserved
loop-k-preserved c =
    let blocks = c.blocks_for.ensures ∙ ap blocks_for (c.code_payload.ensures ∙ ap code_payload c.word.ensures) in
    copy_turn 0 _ _ _ _ _ _ _ c.loop-k.invariant (omega arith) (omega arith)
    (c.payload_word.ensures ∙ rw (c.first_code.ensures, blocks))

pub returns : goal.returns
unfolding memory_in
returns c =
    copy_done 0 _ _ _ _ _ _ _ c.loop-k.invariant (omega arith)
    ∙ copied_zeros (memory_at _) _ memory_words c.args.job.sized.given
