-- `blocks::record::second_words` meets its contract: the words before 2r - 1 are written, and the pairs from register r on are what is left.
-- Assumes nothing.
use Rattle.std.proofs.Common.{sym, ◌∙◌, length-set}
use Rattle.blocks.proofs.Rows.{pair_more, pairs_done}
use Rattle.blocks.proofs.record.second_words.Goals as goal

pub loop-r-preserved : goal.loop-r-preserved
loop-r-preserved c =
    let l = c.loop-r in
    let ls = c.args.lows.now in
    let hs = c.args.highs.now in
    (simp length-set l.invariant.0, pair_more l.words ls hs l.r l.auto.r l.invariant.0 c.told-lows c.told-highs c.loop-r-test.true ∙ l.invariant.1)

pub returns : goal.returns
returns c =
    let l = c.loop-r in
    sym (pairs_done l.words c.args.lows.now c.args.highs.now l.r l.auto.r l.invariant.0 c.told-lows c.told-highs c.loop-r-test.false) ∙ l.invariant.1
