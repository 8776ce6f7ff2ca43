-- `counting::counting::try_count` meets its contract: the job's own questions by the reader, and then what was read.
-- Assumes nothing.
use mathlib.Core.Path.{◌≡◌, ap, ◌∙◌}
use Prim.Native.Nat.{ℕ, ◌*◌}
use lib.ListN.{length, replicate, length-replicate}
use Rattle.riscu.specs.Limits.{code_words}
use Rattle.blocks.specs.Record.{most_inputs}
use Rattle.serving.proofs.JobPassed.{read_refused, read_passed}
use Rattle.counting.specs.Working.Adding.{counted_job}
use Rattle.counting.proofs.Read.{job_refused, job_counted, job_is, job_passed}
use native.Mathlib.Omega.{arith}
use Rattle.std.proofs.lemmas.Result.{err_from_is_err_and}
use Rattle.counting.proofs.counting.try_count.Goals as goal

code_size : length (replicate {A = ℕ} code_words 0) ≡ code_words
code_size = length-replicate {A = ℕ} code_words 0

intervals_size : length (replicate {A = ℕ} (2 * most_inputs) 0) ≡ 2 * most_inputs
intervals_size = length-replicate {A = ℕ} (2 * most_inputs) 0

pub returns-in_err-counts : goal.returns-in_err-counts
returns-in_err-counts c =
    let (r, refused, same) = err_from_is_err_and c.from_residual.result c.from_residual.ensures.1 in
    rw (refused, same) (job_refused _ (read_refused c.args.job.now _ _ _ _ _ _ c.in_err-counts.ensures))

pub count_read-requires : goal.count_read-requires
count_read-requires c = job_passed _ _ _ _ _ _ _ (read_passed c.args.job.now _ _ _ _ _ _ c.in_ok-counts.ensures) code_size intervals_size (λ i. omega (arith, c.shared_slice_known-1.given i))

pub returns : goal.returns
returns c =
    let o = read_passed c.args.job.now _ _ _ _ _ _ c.in_ok-counts.ensures in
    c.count_read.ensures ∙ ap counted_job (job_is _ _ _ _ _ _ _ o code_size intervals_size) ∙ job_counted _ o.passes
