-- `reports::asking::is_readable` meets its contract: its tests are those of the definition.
-- Assumes nothing.
use Rattle.std.proofs.Common.{rules}
use borrow.Author.Tests.{tests}
use Rattle.reports.specs.Readable.{readable}
use Rattle.reports.proofs.asking.is_readable.Goals as goal

pub returns-then-counts_agree : goal.returns-then-counts_agree
unfolding readable
returns-then-counts_agree c = search (rules, tests)

pub returns-else-counts_agree : goal.returns-else-counts_agree
unfolding readable
returns-else-counts_agree c = search (rules, tests)
