-- `blocks::report::input_high` meets its contract: the place lies inside the record.
-- Assumes nothing.
use Rattle.blocks.proofs.Said.{high_inside}
use Rattle.blocks.proofs.report.input_high.Goals as goal

pub record_word-requires : goal.record_word-requires
record_word-requires c =
    (c.requires.0, rw c.high_at.ensures (high_inside c.args.inputs c.args.i c.requires.1 c.requires.2))
