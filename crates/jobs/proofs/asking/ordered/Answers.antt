-- `jobs::asking::ordered` meets its contract: the intervals as they are read, from the front of an array.
-- Assumes nothing.
use mathlib.Core.Path.{sym, ap, ◌∙◌}
use mathlib.Core.List.{List}
use Prim.Native.Nat.{ℕ, ◌*◌}
use Rattle.calls.specs.Call.{box_of}
use Rattle.calls.specs.Questions.{in_order}
use Rattle.jobs.specs.Job.{intervals_in}
use Rattle.jobs.proofs.Accepted.{intervals_length, over_taken}
use Rattle.jobs.proofs.asking.ordered.Goals as goal

pub returns : goal.returns
returns c =
    let bytes = c.args.blocks.bytes.now in
    let count = ap (λ (n : ℕ). 2 * n) c.input_count-n.ensures in
    c.in_order.ensures
    ∙ ap (λ (v : List ℕ). in_order (box_of v))
    (rw c.intervals_in.ensures (over_taken (intervals_in bytes) _ (intervals_length bytes ∙ sym count)))
