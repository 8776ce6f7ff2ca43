use Rattle.jobs.proofs.Placed.{even, odd}
use Rattle.jobs.specs.Job.{interval_at}
use mathlib.Core.Path.{◌∙◌}
use Rattle.jobs.proofs.job_words.WholeBlocks.interval_word.Goals as goal

pub returns-then-j-eq0 : goal.returns-then-j-eq0
unfolding interval_at
returns-then-j-eq0 c = c.word.ensures ∙ rw c.low_at.ensures (even c.args.j _ _ c.if-j-eq0.true)

pub returns : goal.returns
unfolding interval_at
returns c = c.word-2.ensures ∙ rw c.high_at.ensures (odd c.args.j _ _ c.if-j-eq0.false)
