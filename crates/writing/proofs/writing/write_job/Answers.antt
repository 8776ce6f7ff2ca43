-- `writing::writing::write_job` meets its contract: a call that is refused leaves the space as lent.
-- Assumes nothing.
use mathlib.Core.Path.{sym}
use Rattle.std.proofs.lemmas.Result.{err_from_is_err_and}
use Rattle.writing.proofs.Promises.{value_refused}
use Rattle.writing.proofs.writing.write_job.Goals as goal

pub returns-in_err-ask_values : goal.returns-in_err-ask_values
returns-in_err-ask_values c =
    let (r, refused, same) = err_from_is_err_and c.from_residual.result c.from_residual.ensures.1 in
    rw (refused, same) (sym (value_refused _ (sym c.in_err-ask_values.ensures)))
