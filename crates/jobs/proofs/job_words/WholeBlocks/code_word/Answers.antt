use Rattle.jobs.proofs.Placed.{even, odd}
use Rattle.jobs.specs.Job.{code_at}
use Rattle.std.proofs.lemmas.Nat.{and_mask}
use mathlib.Core.Path.{ap, ◌∙◌}
use Prim.Native.Nat.{ℕ, ◌/◌, ◌%◌, ◌^◌}
use Rattle.jobs.proofs.job_words.WholeBlocks.code_word.Goals as goal

pub returns-then-j-eq0 : goal.returns-then-j-eq0
unfolding code_at
returns-then-j-eq0 c =
    and_mask c.payload_word-w.result 32
    ∙ ap (λ (w : ℕ). w % 2 ^ 32) c.payload_word-w.ensures
    ∙ rw c.first_code.ensures (even c.args.j _ _ c.if-j-eq0.true)

pub returns : goal.returns
unfolding code_at
returns c =
    ap (λ (w : ℕ). w / 2 ^ 32) c.payload_word-w.ensures
    ∙ rw c.first_code.ensures (odd c.args.j _ _ c.if-j-eq0.false)
