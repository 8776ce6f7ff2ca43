-- `blocks::report::record_word` meets its contract: the word lies inside the record, and the record inside the report.
-- Assumes nothing.
use Rattle.std.proofs.Common.{ℕ, ◌+◌, ◌*◌, drop, ap, ◌∙◌}
use Rattle.blocks.specs.Block.{word_bytes, word_at}
use Rattle.blocks.proofs.Records.{record_read}
use Rattle.blocks.proofs.report.record_word.Goals as goal

pub returns : goal.returns
returns c =
    let a = c.args in
    c.word_at.ensures
    ∙ ap (λ (size : ℕ). word_at (drop (size * a.k + a.place * word_bytes) a.report.now) 0) c.record_bytes.ensures
    ∙ record_read a.inputs a.report.now a.k a.place c.requires.0 c.requires.1
