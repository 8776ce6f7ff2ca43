-- The page of a call, from what the explorer knows when it stops: no fork is left, or the page is full and something of a fork is left.
-- Assumes nothing.
use mathlib.Core.Path.{◌≡◌}
use mathlib.Core.Bool.{true, false}
use mathlib.Core.List.{List, [], ◌∷◌}
use Prim.Native.Nat.{ℕ, ◌+◌, ◌-◌, ◌/◌, ◌≤◌}
use native.Mathlib.Omega.{arith}
use lib.Dec.{ltb}
use lib.ListN.{length, drop, length-drop}
use lib.Seq.{take_all, take_at, drop-append-le}
use borrow.Author.Tests.{lt-ltb, le-ltb}
use Rattle.listing.specs.Group.{Job, Group}
use Rattle.listing.specs.Listing.{Path, listing}
use Rattle.blocks.specs.Record.{record_bytes}
use Rattle.calls.specs.Call.{Call, inputs_of, page}
use Rattle.forks.specs.Working.Stack.{Fork, Resting}
use Rattle.forks.proofs.Positions.{paths_first, more, finish}
use Rattle.forks.proofs.Turns.{rest_waits}
use Rattle.corners.specs.Working.Good.{Sound}

module _ (j : Job) (sound : Sound j j.box) (c : Call) {n : ℕ} {ps : List Path} {g : Group} where
  pub page_ended : Resting j n ps g [] → length ps ≤ c.first + length c.report / record_bytes (inputs_of c)
      → (page j c ≡ drop c.first ps) × (ltb (c.first + length (drop c.first ps)) (length (listing j)) ≡ false)
  unfolding page
  page_ended r l =
      let e = finish j sound r in (
        rw e (take_all (length c.report / record_bytes (inputs_of c)) (drop c.first ps) (rw length-drop (omega arith))),
        rw (e, length-drop) (le-ltb (c.first + (length ps - c.first)) (length ps) (omega arith)),
      )

  pub page_full : {f : Fork} {fs : List Fork} → Resting j n ps g (f ∷ fs) → f.spent ≡ false
      → length ps ≡ c.first + length c.report / record_bytes (inputs_of c)
      → (page j c ≡ drop c.first ps) × (ltb (c.first + length (drop c.first ps)) (length (listing j)) ≡ true)
  unfolding page
  page_full r t l =
      let (rest, e) = (paths_first j sound n (rest_waits r t)).0 in (
        rw (e, drop-append-le c.first ps rest (omega arith))
            (take_at (drop c.first ps) rest (length c.report / record_bytes (inputs_of c)) (rw length-drop (omega arith))),
        rw length-drop (lt-ltb (c.first + (length ps - c.first)) (length (listing j)) (omega (arith, more j sound r t))),
      )
