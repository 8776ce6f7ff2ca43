use Rattle.jobs.specs.Job.{well_formed}
use Rattle.jobs.proofs.asking.well_formed.Goals as goal

pub returns : goal.returns
unfolding well_formed
returns c =
    rw (
      c.unused_zero.ensures,
      c.word.ensures,
      c.blocks_needed-needed.ensures,
      c.word-given.ensures,
      c.word-n.ensures,
    )
