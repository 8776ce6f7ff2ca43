use Rattle.riscu.specs.Machine.{operate}
use borrow.Author.Tests.{ne_eqb}
use Rattle.riscu.proofs.plain.divu.Goals as goal

pub returns-then-b-eq0 : goal.returns-then-b-eq0
unfolding operate
returns-then-b-eq0 c = rw c.if-b-eq0.true

pub returns-else-b-eq0 : goal.returns-else-b-eq0
unfolding operate
returns-else-b-eq0 c = rw (ne_eqb c.args.b 0 c.if-b-eq0.false)
