-- `blocks::block::put_block` meets its contract: the first k words of the payload are written, and the check of the others from s on is the whole check.
-- Assumes nothing.
use Rattle.std.proofs.Common.{sym, refl, ◌∙◌, arith}
use mathlib.Core.List.{flat_map}
use Rattle.blocks.proofs.Written.{word_turn, check_turn, block_done}
use Rattle.blocks.proofs.Puts.{put_none}
use Rattle.blocks.proofs.block.put_block.Goals as goal

pub loop-k-init : goal.loop-k-init
unfolding flat_map
loop-k-init c = (sym (put_none _ _), refl)

pub loop-k-preserved : goal.loop-k-preserved
loop-k-preserved c =
    let l = c.loop-k in
    let put = c.put_word in
    let ws = c.args.words.now in
    let w = c.word_or_zero-w in (
      word_turn ws c.requires.1 l.k w.result (omega arith) w.ensures c.args.bytes.now c.args.at c.requires.0 l.invariant.0 put.ensures,
      check_turn ws c.requires.1 l.k w.result (omega arith) w.ensures l.s c.turned.result c.turned.ensures refl ∙ l.invariant.1,
    )

pub returns : goal.returns
returns c =
    let l = c.loop-k in
    c.put_word-2.ensures
    ∙ rw l.invariant.0 (block_done c.args.bytes.now c.args.at c.args.words.now l.k l.s c.requires.1 c.requires.0 (omega arith) l.invariant.1)
