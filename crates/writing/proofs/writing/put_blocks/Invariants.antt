use lib.ListN.{length}
use Rattle.std.specs.Iterator.Adapters.{enumerate_source, enumerate_count}
use Rattle.jobs.specs.Job.{blocks_for}
use Rattle.writing.proofs.Parts.{Putting, Chunked}
use Rattle.writing.proofs.writing.put_blocks.Given as goal

abbrev pub invariant-loop-b : goal.invariant-loop-b
invariant-loop-b l =
    let b = enumerate_count l.b-iterator in
    Chunked l.words b (enumerate_source l.b-iterator) × Putting l.words l.initial.job l.at (blocks_for (length l.words)) l.job b
