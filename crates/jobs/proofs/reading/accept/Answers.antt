-- `jobs::reading::accept` meets its contract: past the questions the counts are few, and each part is what was read.
-- Assumes nothing.
use Rattle.jobs.proofs.Asked.{yes_sized}
use Rattle.jobs.specs.Working.Reading.{read_by, read_to}
use Rattle.jobs.specs.Job.{job_read}
use Rattle.jobs.proofs.reading.accept.Goals as goal

pub invariant_of-blocks : goal.invariant_of-blocks
invariant_of-blocks c = record { whole = (yes_sized c.args.bytes.now c.requires).whole }

pub invariant_of-job : goal.invariant_of-job
invariant_of-job c = record { sized = yes_sized c.args.bytes.now c.requires }

pub intervals_in-requires : goal.intervals_in-requires
intervals_in-requires c = (yes_sized c.args.bytes.now c.requires).inputs

pub returns : goal.returns
unfolding read_to read_by job_read
returns c = rw (c.requires, c.counts.ensures, c.code_in.ensures, c.intervals_in.ensures, c.memory_in.ensures)
