use Rattle.boxes.proofs.Filled.{Filled}
use Rattle.blocks.specs.Record.{most_inputs}
use lib.ListN.{get_or}
use Prim.Native.Nat.{◌+◌, ◌*◌}
use Rattle.explorer.proofs.exploring.ends.Given as goal

abbrev pub invariant-loop-k : goal.invariant-loop-k
invariant-loop-k l =
    Filled (λ i. get_or l.intervals (2 * i + 0) 0) most_inputs l.lows l.k
    × Filled (λ i. get_or l.intervals (2 * i + 1) 0) most_inputs l.highs l.k
