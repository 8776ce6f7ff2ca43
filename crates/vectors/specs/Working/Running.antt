-- What a program's tests are run on.
use Rattle.std.specs.Prelude.{◌≡◌, ◌⊎◌, ℕ, ◌≤◌, ◌<◌, List, length, Err}
use Rattle.std.specs.Io.KnownBytes.{Consumes, IsAtEnd}
use Rattle.std.specs.declared.option.Option.{Option}
use Rattle.std.specs.declared.result.Result.{Result}

-- text is what a reader gave from some point on, to its end where that is fewer bytes than there is room for
pub record Gave {S : Type 0} (remaining : S → Option (List ℕ)) (room : ℕ) (text : List ℕ) : Type 0 where
  pub from : S
  pub left : S
  pub taken : Consumes (remaining from) (remaining left) text
  pub fits : length text ≤ room
  pub whole : length text < room → IsAtEnd (remaining left)

-- r is what the tests answer on what a reader gave to its end, if that is fewer bytes than there is room for; or an error
abbrev pub RanToEnd : {S T E : Type 0} → (S → Option (List ℕ)) → ℕ → (List ℕ → Result T E → Type 0) → Result T E → Type 0
RanToEnd {E = E} remaining room Answers r =
    ((text : List ℕ) × Gave remaining room text × (length text < room → Answers text r)) ⊎ ((e : E) × (r ≡ Err e))
