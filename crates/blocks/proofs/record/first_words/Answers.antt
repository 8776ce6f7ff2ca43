-- `blocks::record::first_words` meets its contract: each word is stored at its place, and the inputs' words go where there were zeros.
-- Assumes nothing.
use Rattle.blocks.proofs.Rows.{first_made}
use Rattle.std.proofs.Common.{rules}
use Rattle.blocks.proofs.record.first_words.Goals as goal

pub returns : goal.returns
returns c =
    let a = c.args in
    let pre = c.requires in
    first_made a.p a.lows.now a.highs.now a.register_lows.now a.register_highs.now pre.0 pre.1 (search rules)
    c.kind_number.ensures
    c.exit_word.ensures
    c.exit_word-2.ensures
    c.reason_word.ensures
    c.copy_from_slice.ensures.after
    c.copy_from_slice-2.ensures.after
