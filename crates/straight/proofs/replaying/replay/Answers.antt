use Rattle.lockstep.specs.Working.LockStep.{Pair, pair, both, tagged, lock_steps, starting}
use Rattle.lockstep.specs.declared.Corners.{Corners}
use Rattle.riscu.specs.Limits.{memory_words}
use lib.ListN.{replicate}
use mathlib.Core.Path.{◌≡◌, ap, ◌∙◌}
use Rattle.straight.proofs.replaying.replay.Goals as goal

pub returns : goal.returns
unfolding starting
returns c =
    let a = c.args in
    let from : Corners = record { low = c.begin-low.result; high = c.begin-high.result } in
    let starts : both from c.clear_tags.new.self ≡ starting a.memory.now =
    rw c.clear_tags.ensures (λ j. pair (c.begin-low.ensures j) (c.begin-high.ensures j) (tagged (replicate 32 0) (replicate memory_words 0))) in
    c.proceed_both.ensures ∙ ap (λ (p : Pair). lock_steps a.lows.now a.highs.now a.code.now a.n p) starts
