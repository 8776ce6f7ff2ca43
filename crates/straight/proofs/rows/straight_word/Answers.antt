use mathlib.Core.Path.{sym}
use Rattle.straight.proofs.rows.straight_word.Goals as goal

pub returns-in-Some : goal.returns-in-Some
returns-in-Some c = rw (sym c.in-Some.ensures.form) c.straight_row.ensures
