use mir.Val.{bool_byte}
use native.Mathlib.Numerals.{unary_clauses}
use native.Mathlib.Omega.{arith}
use Rattle.forks.proofs.Table.{forks_push}
use Rattle.cuts.specs.Working.Entries.{fork_held}
use mathlib.Core.Bool.{Bool, true, false, cond}
use mathlib.Core.Path.{◌≡◌, refl}
use Rattle.cuts.proofs.entries.push.Goals as goal

as_word : (b : Bool) → bool_byte b ≡ cond b 1 0
as_word true = refl
as_word false = refl

pub returns : goal.returns
returns c = simp (unary_clauses, c.from.ensures, as_word) (forks_push c.args.table.now c.args.n (fork_held c.args.fork) (omega arith))
