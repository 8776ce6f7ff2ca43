-- `blocks::report::input_low` meets its contract: the place lies inside the record.
-- Assumes nothing.
use Rattle.blocks.proofs.Said.{low_inside}
use Rattle.blocks.proofs.report.input_low.Goals as goal

pub record_word-requires : goal.record_word-requires
record_word-requires c =
    (c.requires.0, rw c.low_at.ensures (low_inside c.args.inputs c.args.i c.requires.1 c.requires.2))
