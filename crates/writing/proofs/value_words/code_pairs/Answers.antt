-- `writing::value_words::code_pairs` meets its contract: pair by pair, onto zeros.
-- Assumes nothing.
use mathlib.Core.Path.{◌∙◌}
use native.Mathlib.Omega.{arith}
use lib.ListN.{length}
use Rattle.riscu.specs.Limits.{code_words}
use Rattle.jobs.specs.Job.{code_payload}
use Rattle.jobs.proofs.Copied.{copy_turn, copy_done, copied_zeros}
use Rattle.writing.specs.Form.{code_pair, code_pairs}
use Rattle.writing.proofs.value_words.code_pairs.Goals as goal

pub loop-i-preserved : goal.loop-i-preserved
loop-i-preserved c = copy_turn 0 _ _ _ _ _ _ _ c.loop-i.invariant (omega arith) (omega arith) c.code_pair.ensures

pub returns : goal.returns
unfolding code_pairs
returns c =
    let n = code_payload (length c.args.code.now) in
    copy_done 0 _ _ _ _ _ _ _ c.loop-i.invariant (omega arith)
    ∙ copied_zeros (code_pair c.args.code.now) n (code_payload code_words) (omega (arith, c.requires))
