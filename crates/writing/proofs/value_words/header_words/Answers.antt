-- `writing::value_words::header_words` meets its contract: each word is stored at its place, then those of the inputs.
-- Assumes nothing.
use mathlib.Core.Path.{◌∙◌}
use Rattle.writing.specs.Form.{header_words}
use Rattle.writing.proofs.value_words.header_words.Goals as goal

pub returns : goal.returns
unfolding header_words
returns c = c.put_inputs.ensures ∙ rw c.requires.1
