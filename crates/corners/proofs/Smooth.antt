-- Smooth steps: no choice of the box is stopped (points 2 to 9 of the ending order), and all have one class.
-- Assumes nothing.
use mathlib.Core.Logic.{inl, inr, ⊎_elim}
use mathlib.Core.Option.{Option, none, some}
use Prim.Native.Nat.{ℕ}
use Rattle.boxes.specs.Boxes.{Choice, Box, Within}
use Rattle.riscu.specs.Machine.{State}
use Rattle.riscu.specs.declared.Instruction.{Instruction}
use Rattle.listing.specs.Group.{Job, after, sorting_of}
use Rattle.listing.specs.declared.Operand.{Operand}
use Rattle.listing.specs.declared.Sorting.{Sorting}
use Rattle.listing.specs.declared.Sorting.TheVariants.{Operates, Compares, Nothing}
use Rattle.corners.proofs.Tame.{same_within}
use Rattle.corners.specs.Working.Smooth.{OneSame, base_of, BaseSame, PairSettled, OperandsSettled, Followed, Smooth}

-- what holds on a box holds on a box within it

module _ (a b : Box) (w : Within a b) where
  one_same_within : {E : Type 0} {f g : Choice → ℕ} → OneSame E b f g → OneSame E a f g
  one_same_within = ⊎_elim (λ s. inl (same_within a b w s)) (λ (e, s). inr (e, same_within a b w s))

  base_within : (s : Choice → State) (r : Option ℕ) → BaseSame b s r → BaseSame a s r
  base_within s none h = tt
  base_within s (some r) h = same_within a b w h

  pair_within : {E I : Type 0} (s : Choice → State) (x y : Operand) → PairSettled b s E I x y → PairSettled a s E I x y
  pair_within s x y = ⊎_elim (λ o. inl (one_same_within o)) inr

  operands_within : (s : Choice → State) (x : Sorting) → OperandsSettled b s x → OperandsSettled a s x
  operands_within s (Operates op x y) h = pair_within s x y h
  operands_within s (Compares x y) h = pair_within s x y h
  operands_within s Nothing h = tt

  pub followed_within : (j : Job) (n : ℕ) {i : Instruction} → Followed j b n i → Followed j a n i
  followed_within j n {i} f =
      record {
        fetched = λ c m. f.fetched c (w c m);
        completes = λ c m. f.completes c (w c m);
        settled = (base_within (after j n) (base_of i) f.settled.0, operands_within (after j n) (sorting_of i) f.settled.1);
      }

  pub smooth_within : (j : Job) (n : ℕ) → Smooth j b n → Smooth j a n
  smooth_within j n s =
      record { instruction = s.instruction; followed = followed_within j n s.followed; class = same_within a b w s.class }
