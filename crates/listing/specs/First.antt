-- Cases in an order: the first that applies decides. The points of the ending order and the questions at the door are such lists.
use Rattle.std.specs.Prelude.{Bool, cond, List, [], ◌∷◌}
use Rattle.std.proofs.Math.Option.{Option, none, some}

-- whether a case applies, and what it gives then
pub record Case (A : Type 0) : Type 0 where
  pub applies : Bool
  pub gives : A

infix 5 ◌⇒◌
abbrev pub ◌⇒◌ : {A : Type 0} → Bool → A → Case A
a ⇒ x = record { applies = a; gives = x }

unfoldable pub first : {A : Type 0} → List (Case A) → Option A
first [] = none
first (c ∷ cs) = cond c.applies (some c.gives) (first cs)
