-- Laws of the first case that applies: one more case, two lists joined, none that applies, and two lists that agree.
-- Assumes nothing.
use mathlib.Core.Path.{◌≡◌, refl, sym, ◌∙◌}
use mathlib.Core.Logic.{◌↔◌, ⊎_elim}
use mathlib.Core.Bool.{Bool, true, false}
use mathlib.Core.List.Memᴰ
use mathlib.Core.List.Memᴰ.{head as here}
use mathlib.Core.List.Memᴰ.{tail as there}
use mathlib.Core.List.{List, [], ◌∷◌, ◌++◌}
use mathlib.Core.Option.{Option, none, some}
use Rattle.boxes.specs.Boxes.{◌∈◌}
use Rattle.boxes.proofs.Lists.{by_test}
use Rattle.listing.specs.First.{Case, ◌⇒◌, first}

unfoldable pub otherwise : {A : Type 0} → Option A → Option A → Option A
otherwise (some x) o = some x
otherwise none o = o

module _ {A : Type 0} where
  -- a case that applies, one that does not, and no further case
  pub stops : (c : Case A) (cs : List (Case A)) → c.applies ≡ true → some c.gives ≡ first (c ∷ cs)
  unfolding first
  stops c cs e = rw e

  pub goes : (c : Case A) (cs : List (Case A)) → c.applies ≡ false → first cs ≡ first (c ∷ cs)
  unfolding first
  goes c cs e = rw e

  pub passes : none ≡ first {A = A} []
  unfolding first
  passes = refl

  -- none of the cases applies
  pub first_none : (c : Case A) (cs : List (Case A)) → first (c ∷ cs) ≡ none → (c.applies ≡ false) × (first cs ≡ none)
  unfolding first
  first_none c cs e = by_test c.applies (λ t. (cc, cc)) (λ t. (t, rw t at e))

  pub none_applies : (cs : List (Case A)) → (first cs ≡ none) ↔ ((c : Case A) → c ∈ cs → c.applies ≡ false)
  none_applies cs = (only cs, whenever cs)
    where
      only : (cs : List (Case A)) → first cs ≡ none → (c : Case A) → c ∈ cs → c.applies ≡ false
      only [] e c m = absurd (Memᴰ.not-nil m)
      only (d ∷ cs) e c m =
          let (n, f) = first_none d cs e in
          ⊎_elim (λ z. rw z n) (λ k. only cs f c k) (Memᴰ.cases_cons m)

      whenever : (cs : List (Case A)) → ((c : Case A) → c ∈ cs → c.applies ≡ false) → first cs ≡ none
      whenever [] h = sym passes
      whenever (d ∷ cs) h = sym (goes d cs (h d (here refl))) ∙ whenever cs (λ c m. h c (there m))

  -- further cases come after
  pub first_append : (cs ds : List (Case A)) → first (cs ++ ds) ≡ otherwise (first cs) (first ds)
  unfolding first otherwise
  first_append [] ds = refl
  first_append (c ∷ cs) ds = let ih = first_append cs ds in by_test c.applies (λ t. rw t) (λ t. rw t ih)

  pub first_none_append : (cs ds : List (Case A)) → first (cs ++ ds) ≡ none → (first cs ≡ none) × (first ds ≡ none)
  unfolding otherwise
  first_none_append cs ds e = go (first cs) (sym (first_append cs ds) ∙ e)
    where
      go : (o : Option A) → otherwise o (first ds) ≡ none → (o ≡ none) × (first ds ≡ none)
      go (some x) d = (d, cc)
      go none d = (refl, d)

  pub first_stays : {x : A} (cs ds : List (Case A)) → first cs ≡ some x → first (cs ++ ds) ≡ some x
  unfolding otherwise
  first_stays cs ds e = first_append cs ds ∙ rw e

  pub first_goes : (cs ds : List (Case A)) → first cs ≡ none → first (cs ++ ds) ≡ first ds
  unfolding otherwise
  first_goes cs ds e = first_append cs ds ∙ rw e

  -- cases that agree up to the first that applies
  pub first_same : (x : A) (t : Bool) {u : Bool} (cs ds : List (Case A)) → t ≡ u → (t ≡ false → first cs ≡ first ds)
      → first ((t ⇒ x) ∷ cs) ≡ first ((u ⇒ x) ∷ ds)
  unfolding first
  first_same x t cs ds e h = by_test t (λ y. rw (sym e, y)) (λ n. rw (sym e, n) (h n))
