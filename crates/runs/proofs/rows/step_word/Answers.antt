use mathlib.Core.Path.{sym}
use Rattle.runs.proofs.Steps.{of_none}
use Rattle.runs.proofs.rows.step_word.Goals as goal

pub returns-in-Some : goal.returns-in-Some
returns-in-Some c = rw (sym c.in-Some.ensures.form) c.step_row.ensures

pub returns-in-None : goal.returns-in-None
returns-in-None c = of_none _ _ (sym c.in-None.ensures.form)
