-- `writing::writing::put_job` meets its contract: the header block, the code blocks, then the memory blocks.
-- Assumes nothing.
use mathlib.Core.Path.{sym, ap, ◌∙◌}
use Rattle.jobs.specs.Job.{blocks_for}
use Rattle.writing.specs.Write.{values_of}
use Rattle.writing.proofs.Made.{given_all, pairs_front, job_put}
use Rattle.writing.proofs.writing.put_job.Goals as goal

pub returns : goal.returns
returns c =
    let code = c.args.values.code.now in
    let given = c.args.values.memory.now in
    let j = values_of code given c.args.values.intervals.now c.args.values.limit c.args.values.first in
    let count = c.code_payload-n.ensures in
    job_put j c.args.job.now (rw c.requires.last c.requires.room)
    c.first_code-at.ensures
    (c.blocks_for.ensures ∙ ap blocks_for count)
    c.header_words-header.ensures
    c.put_block.ensures
    (pairs_front code _ count c.code_pairs-pairs.ensures)
    c.put_blocks.ensures
    (sym (given_all given c.requires.last))
    c.put_blocks-2.ensures
