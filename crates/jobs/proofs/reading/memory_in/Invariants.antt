-- `jobs::reading::memory_in` meets its contract: word by word, onto zeros.
-- Assumes nothing.
use Rattle.riscu.specs.Limits.{memory_words}
use Rattle.jobs.specs.Job.{given_count, memory_at}
use Rattle.jobs.proofs.Copied.{Copying}
use Rattle.jobs.proofs.reading.memory_in.Given as goal

abbrev pub invariant-loop-k : goal.invariant-loop-k
invariant-loop-k l = Copying 0 (memory_at l.job.blocks.bytes.now) memory_words (given_count l.job.blocks.bytes.now) l.initial.memory l.k-end l.memory l.k
