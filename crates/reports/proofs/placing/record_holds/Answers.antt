-- `reports::placing::record_holds` meets its contract: the closure tests the value of its number.
-- Assumes nothing.
use mathlib.Core.Path.{sym, ◌∙◌}
use native.Mathlib.Omega.{arith}
use borrow.Author.Tests.{tests}
use Rattle.std.proofs.Common.{rules}
use Rattle.std.proofs.lemmas.Iterator.{YieldsList-from_range}
use Rattle.std.proofs.lemmas.Iterator.Search.{all_from_yields_List}
use Rattle.blocks.specs.Report.{record_at}
use Rattle.blocks.proofs.Each.{each_list}
use Rattle.reports.proofs.Records.{tested, inside_each}
use Rattle.reports.proofs.placing.record_holds.Goals as goal

pub returns : goal.returns
returns c =
    let n = c.args.inputs in
    let bytes = record_at n c.args.report.now c.args.k in
    let test = tested n c.args.rows.now c.args.j c.requires.2 bytes in
    all_from_yields_List test _ _ _ c.all.ensures.ran (YieldsList-from_range 0 n n (cc) (omega arith)) (λ x b q k. search (rules, tests))
    ∙ each_list test n 0
    ∙ sym (inside_each n c.args.rows.now c.args.j c.requires.2 bytes n 0 (omega arith))
