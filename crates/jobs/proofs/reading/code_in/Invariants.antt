-- `jobs::reading::code_in` meets its contract: word by word.
-- Assumes nothing.
use Rattle.riscu.specs.Limits.{code_words}
use Rattle.jobs.specs.Job.{code_count, code_at}
use Rattle.jobs.proofs.Copied.{Copying}
use Rattle.jobs.proofs.reading.code_in.Given as goal

abbrev pub invariant-loop-k : goal.invariant-loop-k
invariant-loop-k l = Copying 0 (code_at l.job.blocks.bytes.now) code_words (code_count l.job.blocks.bytes.now) l.initial.code l.k-end l.code l.k
