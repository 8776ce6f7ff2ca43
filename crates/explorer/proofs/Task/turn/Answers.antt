use Rattle.explorer.proofs.Phases.{group_phase}
use Rattle.explorer.proofs.Explored.{turned_later}
use mathlib.Core.Path.{refl, sym, ◌∙◌}
use Rattle.explorer.proofs.Task.turn.Goals as goal

pub group_turn-requires : goal.group_turn-requires
group_turn-requires c =
    let q = group_phase _ (sym c.is_at_group.ensures ∙ c.if-is_at_group.true) in
    let k = c.run_straight-to.ensures.onto _ _ _ _ _ _ refl c.requires.fact q in
    record { fact = k.explored; phase_value = k.group }

pub returns-then-is_at_group : goal.returns-then-is_at_group
returns-then-is_at_group c =
    let q = group_phase _ (sym c.is_at_group.ensures ∙ c.if-is_at_group.true) in
    let k = c.run_straight-to.ensures.onto _ _ _ _ _ _ refl c.requires.fact q in
    turned_later k c.group_turn.ensures
