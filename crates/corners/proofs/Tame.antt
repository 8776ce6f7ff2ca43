-- Values that hang on one input of a box at most: constants, and operations of which one operand is the same for every choice.
-- (A value that is the same for every choice is `OneInput` for any input, so `OneInput` is all that tame has to mean.)
-- Assumes nothing.
use mathlib.Core.Path.{◌≡◌, sym, ◌∙◌}
use mathlib.Core.Logic.{⊎_elim}
use mathlib.Core.Bool.{cond}
use Prim.Native.Nat.{ℕ, ◌<◌}
use native.Mathlib.Omega.{arith}
use lib.Dec.{eqb}
use borrow.Author.Tests.{eqb-true, eqb-false}
use Rattle.boxes.specs.Boxes.{Choice, Box, Within, lows, highs, Inside}
use Rattle.boxes.specs.Working.Cuts.{Proper, OneInput}
use Rattle.boxes.proofs.Lists.{by_test}
use Rattle.boxes.proofs.Choices.{lows_inside, highs_inside}
use Rattle.boxes.proofs.OneInput.{one_input_constant, one_input_rise, one_input_fall, constant_corner}
use Rattle.words.specs.Word.{size}
use Rattle.riscu.specs.Machine.{operate}
use Rattle.riscu.specs.declared.Operation.{Operation}
use Rattle.listing.specs.Group.{sort_of, comparison}
use Rattle.corners.proofs.Operations.{Monotone, Words, flip, open_first, open_second, comparison_rises, comparison_falls}
use Rattle.corners.specs.Working.Smooth.{EitherOpen, Same, OneSame}

pub same_within : {A : Type 0} {f : Choice → A} (a b : Box) → Within a b → Same b f → Same a f
same_within a b w h c d m n = h c d (w c m) (w d n)

pub one_input_cong : {f g : Choice → ℕ} {i : ℕ} (b : Box) → ((c : Choice) → Inside c b → f c ≡ g c) → OneInput b i f → OneInput b i g
one_input_cong b h = one_input_rise b (λ c d m n l. omega (arith, h c m, h d n))

-- one number for every choice
pub one_input_number : {f : Choice → ℕ} {i : ℕ} (n : ℕ) (b : Box) → ((c : Choice) → Inside c b → f c ≡ n) → OneInput b i f
one_input_number n b h = one_input_constant b (λ c d m q. h c m ∙ sym (h d q))

-- the tag of a result, the operands' tags being i and j: that of the second where the first is the same at both corners
abbrev pub tag_of : Box → (Choice → ℕ) → ℕ → ℕ → ℕ
tag_of b f i j = cond (eqb (f (lows b)) (f (highs b))) j i

first_open : (b : Box) {f g : Choice → ℕ} {i : ℕ} {S : ℕ → ℕ → ℕ → Type 0} {h : ℕ → ℕ → ℕ} → Monotone S h
    → ((c d : Choice) → Inside c b → Inside d b → S (g c) (f c) (f d)) → Same b g → OneInput b i f → OneInput b i (λ c. h (f c) (g c))
first_open b {f} {g} m s e =
    ⊎_elim
    (λ r. one_input_rise b (λ c d p q l. rw (e d c q p) (r (g c) (f c) (f d) (s c d p q) l)))
    (λ r. one_input_fall b (λ c d p q l. rw (e d c q p) (r (g c) (f c) (f d) (s c d p q) l)))
    m

module _ (b : Box) (proper : Proper b) {f g : Choice → ℕ} {i j : ℕ} (first : OneInput b i f) (second : OneInput b j g) where
  -- with one operand the same, the result hangs on the input of the other
  one_open : {E : Type 0} (h : ℕ → ℕ → ℕ) → (Same b g → OneInput b i (λ c. h (f c) (g c)))
      → (E → Same b f → OneInput b j (λ c. h (f c) (g c)))
      → OneSame E b f g → OneInput b (tag_of b f i j) (λ c. h (f c) (g c))
  one_open h p q o =
      by_test (eqb (f (lows b)) (f (highs b)))
      (λ e.
      let r = constant_corner b proper first (eqb-true (f (lows b)) (f (highs b)) e) in
      let sf : Same b f = λ c d m n. r c m ∙ sym (r d n) in
      rw e (⊎_elim (λ sg. one_input_constant b (λ c d m n. cc (sf c d m n, sg c d m n))) (λ (u, sf). q u sf) o))
      (λ e. rw e (⊎_elim p
      (λ (u, sf). absurd
      (eqb-false (f (lows b)) (f (highs b)) e (sf (lows b) (highs b) (lows_inside b proper) (highs_inside b proper)))) o))

  module _ (words : (c : Choice) → Inside c b → (f c < size) × (g c < size)) where
    pub class_one_input : {E : Type 0} (k : ℕ → ℕ → ℕ) → Monotone Words k → (E → Monotone Words (flip k)) → OneSame E b f g
        → OneInput b (tag_of b f i j) (λ c. k (f c) (g c))
    class_one_input k m n = one_open k
        (λ sg. first_open b m (λ c d p q. ((words c p).1, (words c p).0, (words d q).0)) sg first)
        (λ e sf. first_open b (n e) (λ c d p q. ((words c p).0, (words c p).1, (words d q).1)) sf second)

    pub sort_one_input : (op : Operation) → OneSame (EitherOpen op) b f g → OneInput b (tag_of b f i j) (λ c. sort_of op (f c) (g c))
    sort_one_input op = class_one_input (sort_of op) (open_first op).class (λ e. (open_second op e).class)

    pub comparison_one_input : OneSame (Unit {0}) b f g → OneInput b (tag_of b f i j) (λ c. comparison (f c) (g c))
    comparison_one_input = class_one_input comparison comparison_rises (λ e. comparison_falls)

    -- in one class
    pub result_one_input : (op : Operation) → OneSame (EitherOpen op) b f g → Same b (λ c. sort_of op (f c) (g c))
        → OneInput b (tag_of b f i j) (λ c. operate op (f c) (g c))
    result_one_input op o s = one_open (operate op)
        (λ sg. first_open b (open_first op).result
        (λ c d p q. (((words c p).1, (words c p).0, (words d q).0), cc (s c d p q, sg c d p q))) sg first)
        (λ e sf. first_open b (open_second op e).result
        (λ c d p q. (((words c p).0, (words c p).1, (words d q).1), cc (s c d p q, sf c d p q))) sf second)
        o
