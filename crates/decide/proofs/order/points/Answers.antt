use Rattle.listing.specs.Group.{sorting_of}
use Rattle.listing.specs.Ending.{operand_points, address_points, points}
use Rattle.listing.specs.declared.Sorting.{Sorting}
use Rattle.decide.specs.Working.Corner.{corner_view, verdict}
use Rattle.decide.proofs.Verdicts.{passes_first}
use mathlib.Core.Path.{sym, ap, ◌∙◌}
use Rattle.decide.proofs.order.points.Goals as goal

pub returns : goal.returns
unfolding points
returns c =
    let a = c.args in
    let v = corner_view a.low.now a.high.now in
    c.operand_points.ensures
    ∙ ap (λ (s : Sorting). verdict (operand_points v s)) c.sorting_of.ensures
    ∙ sym (passes_first (address_points v a.i) (operand_points v (sorting_of a.i)) tt (sym c.address_points.ensures ∙ c.in_ok-address_points.was))
