-- `writing::writing::write_accepted` meets its contract: question 14, and then the whole job.
-- Assumes nothing.
use mathlib.Core.Path.{◌≡◌, sym, ap, ◌∙◌}
use Prim.Native.Nat.{ℕ, ◌*◌, ◌≤◌, ◌<◌}
use native.Mathlib.Omega.{arith}
use borrow.Author.Tests.{leb-true, leb-false}
use lib.ListN.{length}
use Rattle.std.proofs.lemmas.Result.{err_from_is_err_and}
use lib.Seq.{length-take-le}
use Rattle.blocks.specs.Block.{block_bytes}
use Rattle.jobs.specs.Job.{JobRead, blocks_needed}
use Rattle.writing.specs.Form.{given_of, inputs_of, form_length}
use Rattle.writing.specs.Write.{values_of, write_call_of}
use Rattle.writing.proofs.Given.{given_few}
use Rattle.writing.proofs.Made.{job_at_start, passed_values, has_room}
use Rattle.writing.proofs.Promises.{space_refused, space_written}
use Rattle.writing.proofs.Read.{code_size, memory_size, form_most}
use Rattle.writing.proofs.writing.write_accepted.Goals as goal

-- the length that is told, of values whose memory words given are counted
module _ (j : JobRead) {n blocks : ℕ} (counted : n ≡ given_of j.memory) (told : blocks ≡ blocks_needed (inputs_of j) (length j.code) n) where
  length_known : block_bytes * blocks ≡ form_length j
  length_known = ap (λ (n : ℕ). block_bytes * n) (told ∙ ap (blocks_needed (inputs_of j) (length j.code)) counted)

pub blocks_needed-bytes-requires : goal.blocks_needed-bytes-requires
blocks_needed-bytes-requires c =
    let j = values_of c.args.values.code.now c.args.values.memory.now c.args.values.intervals.now c.args.values.limit c.args.values.first in
    let yes = passed_values j c.requires in
    (omega (arith, code_size j yes), omega (arith, c.given_count-n.ensures, given_few j.memory, memory_size j yes))

pub overflow_mul-bytes : goal.overflow_mul-bytes
overflow_mul-bytes c =
    let j = values_of c.args.values.code.now c.args.values.memory.now c.args.values.intervals.now c.args.values.limit c.args.values.first in
    omega (arith, length_known j c.given_count-n.ensures c.blocks_needed-bytes.ensures, form_most j (passed_values j c.requires))

pub returns-in_err-require : goal.returns-in_err-require
returns-in_err-require c =
    let j = values_of c.args.values.code.now c.args.values.memory.now c.args.values.intervals.now c.args.values.limit c.args.values.first in
    let no = c.in_err-require.ensures.no in
    let short : length c.args.job.now < form_length j = omega (arith, length_known j c.given_count-n.ensures c.blocks_needed-bytes.ensures, leb-false _ _ no.0) in
    let (r, refused, same) = err_from_is_err_and c.from_residual.result c.from_residual.ensures.1 in
    rw (refused, same, no.1) (sym (space_refused (write_call_of j c.args.job.now) c.requires short))

pub slice_bounds-given-end : goal.slice_bounds-given-end
slice_bounds-given-end c =
    sym (length-take-le c.given_count-n.result c.args.values.memory.now (omega (arith, c.given_count-n.ensures, given_few c.args.values.memory.now)))

pub put_job-requires : goal.put_job-requires
put_job-requires c =
    let j = values_of c.args.values.code.now c.args.values.memory.now c.args.values.intervals.now c.args.values.limit c.args.values.first in
    let fits : form_length j ≤ length c.args.job.now = omega (arith, length_known j c.given_count-n.ensures c.blocks_needed-bytes.ensures, leb-true _ _ c.in_ok-require.ensures.yes) in
    rw c.given_count-n.ensures (has_room j c.requires c.args.job.now fits)

pub returns : goal.returns
returns c =
    let j = values_of c.args.values.code.now c.args.values.memory.now c.args.values.intervals.now c.args.values.limit c.args.values.first in
    let known = length_known j c.given_count-n.ensures c.blocks_needed-bytes.ensures in
    let fits : form_length j ≤ length c.args.job.now = omega (arith, known, leb-true _ _ c.in_ok-require.ensures.yes) in
    let whole = job_at_start j.code j.memory j.intervals j.limit j.first c.args.job.now c.given_count-n.ensures c.put_job.ensures in
    rw (known, whole) (sym (space_written (write_call_of j c.args.job.now) c.requires fits))
