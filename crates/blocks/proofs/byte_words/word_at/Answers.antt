-- `blocks::byte_words::word_at` meets its contract: the library reads eight bytes as the definition does.
-- Assumes nothing.
use Rattle.std.proofs.Common.{rules, ◌∙◌, ap, drop, take, ◌≡◌}
use Rattle.blocks.specs.Block.{number_of, word_bytes}
use Rattle.blocks.proofs.Bytes.{number_eight}
use Rattle.blocks.proofs.byte_words.word_at.Goals as goal

pub returns : goal.returns
returns c =
    let bytes = drop c.args.at c.args.bytes.now in
    let copied = c.copy_from_slice in
    let is : copied.new.self ≡ take word_bytes bytes = search rules in
    c.from_le_bytes.ensures ∙ number_eight copied.new.self copied.ensures.len ∙ ap number_of is
