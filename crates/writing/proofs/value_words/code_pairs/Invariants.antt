-- `writing::value_words::code_pairs` meets its contract: pair by pair, onto zeros.
-- Assumes nothing.
use lib.ListN.{length}
use Rattle.riscu.specs.Limits.{code_words}
use Rattle.jobs.specs.Job.{code_payload}
use Rattle.jobs.proofs.Copied.{Copying}
use Rattle.writing.specs.Form.{code_pair}
use Rattle.writing.proofs.value_words.code_pairs.Given as goal

abbrev pub invariant-loop-i : goal.invariant-loop-i
invariant-loop-i l = Copying 0 (code_pair l.code) (code_payload code_words) (code_payload (length l.code)) l.initial.words l.i-end l.words l.i
