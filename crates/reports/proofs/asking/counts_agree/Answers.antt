-- `reports::asking::counts_agree` meets its contract: the closure tests the record of its number.
-- Assumes nothing.
use mathlib.Core.Path.{sym, ◌∙◌}
use native.Mathlib.Omega.{arith}
use borrow.Author.Tests.{tests}
use Rattle.std.proofs.Common.{rules}
use Rattle.std.proofs.lemmas.Iterator.{YieldsList-from_range}
use Rattle.std.proofs.lemmas.Iterator.Search.{all_from_yields_List}
use Rattle.blocks.specs.Report.{records_in}
use Rattle.blocks.proofs.Each.{each_list}
use Rattle.reports.proofs.Records.{count_at, counts_each}
use Rattle.reports.proofs.asking.counts_agree.Goals as goal

pub returns : goal.returns
returns c =
    let n = c.args.inputs in
    let report = c.args.report.now in
    let count = records_in n report in
    all_from_yields_List (count_at n report) _ _ _ c.all.ensures.ran (YieldsList-from_range 0 count count (cc) (omega arith)) (λ x b q k. search (rules, tests))
    ∙ each_list (count_at n report) count 0
    ∙ sym (counts_each n report)
