use Rattle.jobs.specs.Job.{payload_at}
use Rattle.jobs.proofs.job_words.WholeBlocks.payload_word.Goals as goal

pub returns : goal.returns
unfolding payload_at
returns c = c.word.ensures
