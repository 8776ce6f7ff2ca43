-- What is left of the number, and of the line behind it.
use Rattle.std.proofs.Common.{◌≡◌, drop, length}
use Rattle.vectors.specs.Working.Text.{number_from}
use Rattle.vectors.proofs.Fields.number.Given as goal

abbrev pub invariant-loop-b : goal.invariant-loop-b
invariant-loop-b l =
    let s = l.initial.self.rest.now in
    let t = l.self.rest.now in
    ((number_from s 0 0).value ≡ (number_from t l.value 0).value)
    × (drop (number_from s 0 0).next s ≡ drop (number_from t l.value 0).next t)

abbrev pub decreases-loop-b : goal.decreases-loop-b
decreases-loop-b l = length l.self.rest.now
