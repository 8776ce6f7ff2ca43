-- `WholeBlocks::intervals_in` meets its contract: word by word.
-- Assumes nothing.
use Prim.Native.Nat.{◌*◌}
use Rattle.blocks.specs.Record.{most_inputs}
use Rattle.jobs.specs.Job.{input_count, interval_at}
use Rattle.jobs.proofs.Copied.{Copying}
use Rattle.jobs.proofs.job_words.WholeBlocks.intervals_in.Given as goal

abbrev pub invariant-loop-k : goal.invariant-loop-k
invariant-loop-k l = Copying 0 (interval_at l.self.bytes.now) (2 * most_inputs) (2 * input_count l.self.bytes.now) l.initial.intervals l.k-end l.intervals l.k
