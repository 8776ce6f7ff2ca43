-- `reports::placing::place` meets its contract: a call that is refused leaves the answers as lent.
-- Assumes nothing.
use mathlib.Core.Path.{sym}
use Rattle.std.proofs.lemmas.Result.{err_from_is_err_and}
use Rattle.calls.proofs.Done.{left_refused}
use Rattle.reports.proofs.Promises.{accepted_fits, left_placed}
use Rattle.reports.proofs.placing.place.Goals as goal

pub returns-in_err-ask_place : goal.returns-in_err-ask_place
returns-in_err-ask_place c =
    let (r, refused, same) = err_from_is_err_and c.from_residual.result c.from_residual.ensures.1 in
    rw (refused, same) (sym (left_refused _ _ (sym c.in_err-ask_place.ensures)))

pub place_rows-requires : goal.place_rows-requires
place_rows-requires c = accepted_fits _ (sym c.in_ok-ask_place.ensures)

pub returns : goal.returns
returns c = left_placed _ (sym c.in_ok-ask_place.ensures) c.place_rows.ensures
