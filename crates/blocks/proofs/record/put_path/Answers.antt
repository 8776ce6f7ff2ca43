-- `blocks::record::put_path` meets its contract: two blocks, one behind the other.
-- Assumes nothing.
use Rattle.std.proofs.Common.{◌≡◌, length, arith, rules}
use Rattle.boxes.proofs.TwoLists.{length_in}
use Rattle.blocks.specs.Block.{payload_words}
use Rattle.blocks.specs.Working.Writing.{path_in}
use Rattle.blocks.proofs.Rows.{path_written}
use Rattle.blocks.proofs.record.put_path.Goals as goal

pub returns : goal.returns
returns c =
    let a = c.args in
    let path = path_in a.p a.lows.now a.highs.now a.register_lows.now a.register_highs.now in
    let second = c.second_words-second in
    let n : length second.result ≡ payload_words = search rules in
    path_written a.report.now a.at a.p.number path (rw (length_in a.lows.now a.highs.now c.requires.2) c.requires.1) c.requires.0 (omega arith)
    c.first_words-first.ensures
    second.ensures
    c.put_block.ensures
    c.put_block-2.ensures
