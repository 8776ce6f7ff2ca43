use Rattle.serving.proofs.JobPassed.{read_refused, read_passed, code_few, inputs_few, code_length, intervals_length, served_open, served_refused}
use mathlib.Core.Path.{◌≡◌, sym}
use Rattle.std.proofs.lemmas.Result.{err_from_is_err_and}
use lib.ListN.{length, replicate, length-replicate}
use Prim.Native.Nat.{ℕ, ◌*◌}
use Rattle.riscu.specs.Limits.{code_words}
use Rattle.blocks.specs.Record.{most_inputs}
use native.Mathlib.Omega.{arith}
use Rattle.serving.proofs.serve.Goals as goal

code_size : length (replicate {A = ℕ} code_words 0) ≡ code_words
code_size = length-replicate {A = ℕ} code_words 0

intervals_size : length (replicate {A = ℕ} (2 * most_inputs) 0) ≡ 2 * most_inputs
intervals_size = length-replicate {A = ℕ} (2 * most_inputs) 0

pub returns-in_err-counts : goal.returns-in_err-counts
returns-in_err-counts c =
    let (r, refused, same) = err_from_is_err_and c.from_residual.result c.from_residual.ensures.1 in
    rw (refused, same) (sym (served_refused _ _ (read_refused c.args.job.now _ _ _ _ _ _ c.in_err-counts.ensures)))

pub explore_read-requires : goal.explore_read-requires
explore_read-requires c =
    let p = read_passed c.args.job.now _ _ _ _ _ _ c.in_ok-counts.ensures in (
      omega (arith, code_few _ _ _ _ _ _ _ p code_size intervals_size, code_length _ _ _ _ _ _ _ p code_size intervals_size),
      omega (arith, inputs_few _ _ _ _ _ _ _ p code_size intervals_size, intervals_length _ _ _ _ _ _ _ p code_size intervals_size),
    )

pub returns : goal.returns
returns c =
    let p = read_passed c.args.job.now _ _ _ _ _ _ c.in_ok-counts.ensures in
    served_open _ _ _ _ _ _ _ p code_size intervals_size c.explore_read.result _ _ c.explore_read.ensures
