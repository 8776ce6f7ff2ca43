-- `blocks::byte_words::put_word` meets its contract: the library's bytes of a word, lowest first, are those of the definition.
-- Assumes nothing.
use Rattle.std.proofs.Common.{◌∙◌, arith}
use Rattle.blocks.proofs.Bytes.{bytes_length, bytes_eight}
use Rattle.blocks.proofs.Puts.{put_part}
use Rattle.blocks.proofs.byte_words.put_word.Goals as goal

pub returns : goal.returns
returns c =
    put_part c.args.bytes.now c.args.at _ (c.copy_from_slice.ensures.after ∙ c.to_le_bytes.ensures ∙ bytes_eight c.args.w) (rw bytes_length (omega arith))
