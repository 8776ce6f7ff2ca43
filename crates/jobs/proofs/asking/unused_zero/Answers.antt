use Rattle.jobs.specs.Job.{unused_zero}
use Rattle.jobs.proofs.asking.unused_zero.Goals as goal

pub returns : goal.returns
unfolding unused_zero
returns c =
    rw (
      c.zero_words-lows.ensures,
      c.zero_words-highs.ensures,
      c.zero_words-rest.ensures,
      c.zero_halves-halves.ensures,
      c.zero_words-words.ensures,
      c.first_code.ensures,
      c.blocks_for-code.ensures,
      c.blocks_for-memory.ensures,
      c.code_payload.ensures,
      c.word-n.ensures,
      c.word-inputs.ensures,
      c.word-given.ensures,
    )
