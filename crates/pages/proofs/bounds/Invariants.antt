use Rattle.boxes.proofs.Filled.{Filled}
use lib.ListN.{get_or}
use Prim.Native.Nat.{min, max}
use Rattle.pages.proofs.bounds.Given as goal

abbrev pub invariant-loop-r : goal.invariant-loop-r
invariant-loop-r l =
    Filled (λ r. min (get_or l.low r 0) (get_or l.high r 0)) 32 l.lesser l.r
    × Filled (λ r. max (get_or l.low r 0) (get_or l.high r 0)) 32 l.greater l.r
