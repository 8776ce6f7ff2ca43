use Rattle.boxes.proofs.Filled.{one_filled, all_filled}
use Rattle.blocks.specs.Record.{most_inputs}
use native.Mathlib.Nat.{add-zero}
use native.Mathlib.Omega.{arith}
use Rattle.explorer.proofs.exploring.ends.Goals as goal

pub loop-k-preserved : goal.loop-k-preserved
loop-k-preserved c =
    let i = c.loop-k.invariant in
    let low = c.word_or_zero.ensures in
    (one_filled _ _ i.0 (omega (arith, c.loop-k-test.true)) (rw add-zero low), one_filled _ _ i.1 (omega (arith, c.loop-k-test.true)) c.word_or_zero-in-loop-k.ensures)

pub returns : goal.returns
returns c =
    let i = c.loop-k.invariant in
    record {
      low_ends = all_filled _ most_inputs i.0 (omega arith);
      high_ends = all_filled _ most_inputs i.1 (omega arith);
    }
