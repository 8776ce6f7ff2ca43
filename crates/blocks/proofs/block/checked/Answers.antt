-- `blocks::block::checked` meets its contract: both words are those of the definition.
-- Assumes nothing.
use Rattle.std.proofs.Common.{◌∙◌}
use Rattle.blocks.specs.Block.{payload_words}
use Rattle.blocks.proofs.Bytes.{word_from}
use Rattle.blocks.proofs.block.checked.Goals as goal

pub returns : goal.returns
returns c =
    let a = c.args in
    rw (c.check_of.ensures, c.word_at.ensures ∙ word_from a.bytes.now a.at payload_words)
