-- `reports::asking::ask_place` meets its contract: an accepted report is of one input or more.
-- Assumes nothing.
use mathlib.Core.Path.{sym, ◌∙◌}
use Rattle.reports.proofs.Promises.{readable_inputs}
use Rattle.reports.proofs.asking.ask_place.Goals as goal

pub rows_fit-requires : goal.rows_fit-requires
rows_fit-requires c = (readable_inputs _ _ (sym c.is_readable.ensures ∙ c.in_ok-require.ensures.yes)).0
