-- `sheets::sheet::print_sheet` meets its contract: a call that is refused leaves the sheet as lent.
-- Assumes nothing.
use mathlib.Core.Path.{sym}
use Rattle.std.proofs.lemmas.Result.{err_from_is_err_and}
use Rattle.calls.proofs.Done.{left_refused}
use Rattle.sheets.proofs.Promises.{accepted_fits, left_printed}
use Rattle.sheets.proofs.sheet.print_sheet.Goals as goal

pub returns-in_err-ask_sheet : goal.returns-in_err-ask_sheet
returns-in_err-ask_sheet c =
    let (r, refused, same) = err_from_is_err_and c.from_residual.result c.from_residual.ensures.1 in
    rw (refused, same) (sym (left_refused _ _ (sym c.in_err-ask_sheet.ensures)))

pub put_sheet-bytes-requires : goal.put_sheet-bytes-requires
put_sheet-bytes-requires c = (accepted_fits _ (sym c.in_ok-ask_sheet.ensures)).0

pub returns : goal.returns
returns c = left_printed _ (sym c.in_ok-ask_sheet.ensures) c.put_sheet-bytes.ensures
