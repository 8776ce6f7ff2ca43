-- `blocks::block::checks_agree` meets its contract: the closure tests the block of its number.
-- Assumes nothing.
use Rattle.std.proofs.Common.{◌∙◌, arith, rules}
use Rattle.std.proofs.lemmas.Iterator.{YieldsList-from_range}
use Rattle.std.proofs.lemmas.Iterator.Search.{all_from_yields_List}
use borrow.Author.Tests.{tests}
use Rattle.blocks.specs.Block.{block_agrees, block_count, checks_agree}
use Rattle.blocks.proofs.Each.{each_list}
use Rattle.blocks.proofs.block.checks_agree.Goals as goal

pub returns : goal.returns
unfolding checks_agree
returns c =
    let bytes = c.args.bytes.now in
    all_from_yields_List (block_agrees bytes) _ _ _ c.all.ensures.ran (YieldsList-from_range 0 (block_count bytes) (block_count bytes) (cc) (omega arith)) (λ x b q k. search (rules, tests))
    ∙ each_list (block_agrees bytes) (block_count bytes) 0
