-- `blocks::block::check_of` meets its contract: the check of the words that are left, from s on, is the whole check.
-- Assumes nothing.
use Rattle.std.proofs.Common.{drop, ◌∙◌, arith}
use Rattle.blocks.specs.Block.{word_at}
use Rattle.blocks.proofs.Bytes.{word_from}
use Rattle.blocks.proofs.Written.{check_read, check_all}
use Rattle.blocks.proofs.block.check_of.Goals as goal

pub loop-k-preserved : goal.loop-k-preserved
loop-k-preserved c =
    let l = c.loop-k in
    let a = c.args in
    let w = c.word_at.ensures ∙ word_from a.bytes.now a.at l.k in
    rw (c.turned.ensures, w) (check_read (word_at (drop a.at a.bytes.now)) l.s l.k (omega arith) ∙ l.invariant)

pub returns : goal.returns
returns c =
    let l = c.loop-k in
    let a = c.args in
    check_all (word_at (drop a.at a.bytes.now)) l.s l.k (omega arith) l.invariant
