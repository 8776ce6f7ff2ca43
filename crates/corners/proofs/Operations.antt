-- The operations on two words, one of them held fixed: the class is monotone in the other, and in each class so is the result. A word
-- against itself: one class and one result.
-- Assumes nothing.
use mathlib.Core.Path.{◌≡◌, refl, sym}
use mathlib.Core.Logic.{◌⊎◌, inl, inr}
use mathlib.Core.Bool.{cond}
use mathlib.Core.List.{List}
use Prim.Native.Nat.{ℕ, zero, suc, ◌+◌, ◌-◌, ◌*◌, ◌/◌, ◌%◌, ◌≤◌, ◌<◌}
use native.Mathlib.Nat.{div-add-mod, div-zero, le-div_iff_mul-le, div-mul-le_self, mul-le-mul_left, mul-le-mul_right}
use native.Mathlib.Omega.{arith}
use native.Mathlib.Decide.{dec_lt}
use lib.Dec.{ltb, eqb}
use borrow.Author.Tests.{ltb-true, ltb-false, lt-ltb, le-ltb, eqb-true, eqb-false, eq-eqb}
use Rattle.boxes.proofs.Lists.{by_test}
use Rattle.words.specs.Word.{size, word}
use Rattle.riscu.specs.Machine.{operate, taken}
use Rattle.riscu.specs.declared.Operation.{Operation}
use Rattle.riscu.specs.declared.Operation.TheVariants.{Add, Sub, Mul, Divu, Remu, Sltu}
use Rattle.riscu.specs.declared.Condition.{Condition}
use Rattle.riscu.specs.declared.Condition.TheVariants.{Equal}
use Rattle.listing.specs.Group.{sort_of, comparison, branch_sorting, operand, class_by}
use Rattle.listing.specs.declared.Operand.{Operand}
use Rattle.corners.specs.Working.Smooth.{EitherOpen, WithItself}

-- f goes one way in its first argument, the second held fixed, at the arguments that S relates
abbrev pub Monotone : (ℕ → ℕ → ℕ → Type 0) → (ℕ → ℕ → ℕ) → Type 0
Monotone S f =
    ((v x y : ℕ) → S v x y → x ≤ y → f x v ≤ f y v) ⊎ ((v x y : ℕ) → S v x y → x ≤ y → f y v ≤ f x v)

abbrev pub Words : ℕ → ℕ → ℕ → Type 0
Words v x y = (v < size) × (x < size) × (y < size)

-- k sorts the numbers, and in each class f goes one way
pub record Sorts (k f : ℕ → ℕ → ℕ) : Type 0 where
  pub class : Monotone Words k
  pub result : Monotone (λ v x y. Words v x y × (k x v ≡ k y v)) f

abbrev pub flip : (ℕ → ℕ → ℕ) → ℕ → ℕ → ℕ
flip f x y = f y x

pub div_rises : (m : ℕ) {x y : ℕ} → x ≤ y → x / m ≤ y / m
div_rises zero {x} {y} h = rw (div-zero x, div-zero y) (omega arith)
div_rises (suc m) {x} {y} h = (le-div_iff_mul-le {k = suc m} (omega arith)).1 (omega (arith, div-mul-le_self x (suc m)))

pub mod_rises : (m : ℕ) {x y : ℕ} → x ≤ y → x / m ≡ y / m → x % m ≤ y % m
mod_rises m {x} {y} h e = let dx = div-add-mod x m in let dy = div-add-mod y m in omega (arith, rw e at dx)

pub ltb_same : (a b c d : ℕ) → (a < b → c < d) → (c < d → a < b) → ltb a b ≡ ltb c d
ltb_same a b c d f g =
    elim (dec_lt a b) [
      | yes h ↦ rw (lt-ltb a b h, lt-ltb c d (f h))
      | no h ↦ elim (dec_lt c d) [
        | yes k ↦ absurd (h (g k))
        | no k ↦ rw (le-ltb a b (omega arith), le-ltb c d (omega arith))
      ]
    ]

-- 1 where the test holds, 0 where not
abbrev less : ℕ → ℕ → ℕ
less a b = cond (ltb a b) 1 0

less_le : (a b c d : ℕ) → (a < b → c < d) → less a b ≤ less c d
less_le a b c d h = by_test (ltb a b) (λ e. rw (e, lt-ltb c d (h (ltb-true a b e))) (omega arith)) (λ e. rw e (omega arith))

less_same : (a b c d : ℕ) → less a b ≡ less c d → a < b → c < d
less_same a b c d e h = by_test (ltb c d) (ltb-true c d) (λ t. absurd (omega (arith, rw (lt-ltb a b h, t) at e)))

sub_rises : (v x y : ℕ) → Words v x y → (x < v → y < v) → x ≤ y → word (x + (size - v)) ≤ word (y + (size - v))
sub_rises v x y w s h = elim (dec_lt x v) [ yes l ↦ (let k = s l in omega arith) | no l ↦ omega arith ]

sub_falls : (v x y : ℕ) → Words v x y → (v < y → v < x) → x ≤ y → word (v + (size - y)) ≤ word (v + (size - x))
sub_falls v x y w s h = elim (dec_lt v y) [ yes l ↦ (let k = s l in omega arith) | no l ↦ omega arith ]

-- the comparison as two tests, and as the test for equality
comparison_less : (a b : ℕ) → comparison a b + less a b ≡ 1 + less b a
unfolding comparison
comparison_less a b =
    by_test (ltb a b)
    (λ t. rw (t, le-ltb b a (let k = ltb-true a b t in omega arith)))
    (λ t. let k = ltb-false a b t in by_test (eqb a b)
    (λ e. let q = eqb-true a b e in rw (t, e, le-ltb b a (omega arith)))
    (λ e. let q : ¬ (a ≡ b) = eqb-false a b e in rw (t, e, lt-ltb b a (omega arith))))

comparison_equal : (a b : ℕ) → eqb a b ≡ eqb (comparison a b) 1
unfolding comparison
comparison_equal a b = by_test (eqb a b)
    (λ e. let q = eqb-true a b e in rw (le-ltb a b (omega arith), e))
    (λ e. by_test (ltb a b) (λ t. rw (t, e)) (λ t. rw (t, e)))

-- in registers of one class a branch goes one way
pub taken_same : (on : Condition) (x y : Operand) (l m : List ℕ)
    → class_by (branch_sorting on x y) l ≡ class_by (branch_sorting on x y) m
    → taken on (operand x l) (operand y l) ≡ taken on (operand x m) (operand y m)
unfolding class_by
taken_same Equal x y l m e = cc (e, comparison_equal (operand x l) (operand y l), comparison_equal (operand x m) (operand y m))

-- Three ways to sort: by the wrap, by the result itself, not at all.

module _ (g : ℕ → ℕ → ℕ) (rises : (v x y : ℕ) → x ≤ y → g x v ≤ g y v) where
  by_wrap : Sorts (λ x v. g x v / size) (λ x v. word (g x v))
  by_wrap =
      record {
        class = inl (λ v x y w h. div_rises size (rises v x y h));
        result = inl (λ v x y w h. mod_rises size (rises v x y h) w.1);
      }

  by_nothing : Sorts (λ x v. 0) (λ x v. g x v)
  by_nothing = record { class = inl (λ v x y w h. omega arith); result = inl (λ v x y w h. rises v x y h) }

by_itself : (k : ℕ → ℕ → ℕ) → Monotone Words k → Sorts k k
by_itself k h = record { class = h; result = inl (λ v x y w l. omega arith) }

-- the tests a < b and comparisons, in each of the two operands
less_falls : Monotone Words less
less_falls = inr (λ v x y w h. less_le y v x v (omega arith))

less_rises : Monotone Words (flip less)
less_rises = inl (λ v x y w h. less_le v x v y (omega arith))

pub comparison_rises : Monotone Words comparison
comparison_rises = inl (λ v x y w h.
    omega (arith, comparison_less x v, comparison_less y v, less_le y v x v (omega arith), less_le v x v y (omega arith)))

pub comparison_falls : Monotone Words (flip comparison)
comparison_falls = inr (λ v x y w h.
    omega (arith, comparison_less v x, comparison_less v y, less_le y v x v (omega arith), less_le v x v y (omega arith)))

-- division, with the two results by 0
divu_rises : (v x y : ℕ) → x ≤ y → operate Divu x v ≤ operate Divu y v
unfolding operate
divu_rises v x y h = by_test (eqb v 0) (λ e. rw e (omega arith)) (λ e. rw e (div_rises v h))

remu_class : (v x y : ℕ) → x ≤ y → sort_of Remu x v ≤ sort_of Remu y v
unfolding sort_of
remu_class v x y h = by_test (eqb v 0) (λ e. rw e (omega arith)) (λ e. rw e (div_rises v h))

remu_rises : (v x y : ℕ) → sort_of Remu x v ≡ sort_of Remu y v → x ≤ y → operate Remu x v ≤ operate Remu y v
unfolding sort_of operate
remu_rises v x y s h = by_test (eqb v 0) (λ e. rw e h) (λ e. rw e (mod_rises v h (rw e at s)))

-- The table: a line for each operation with its second operand held fixed, and one with its first.

pub open_first : (op : Operation) → Sorts (sort_of op) (operate op)
unfolding sort_of operate
open_first Add = by_wrap (λ x v. x + v) (omega arith)
open_first Sub = record { class = less_falls; result = inl (λ v x y w h. sub_rises v x y w.0 (less_same x v y v w.1) h) }
open_first Mul = by_wrap (λ x v. x * v) (λ v x y h. mul-le-mul_right v h)
open_first Divu = by_nothing (operate Divu) divu_rises
open_first Remu =
    record { class = inl (λ v x y w h. remu_class v x y h); result = inl (λ v x y w h. remu_rises v x y w.1 h) }
open_first Sltu = by_itself less less_falls

pub open_second : (op : Operation) → EitherOpen op → Sorts (flip (sort_of op)) (flip (operate op))
unfolding sort_of operate
open_second Add e = by_wrap (λ x v. v + x) (omega arith)
open_second Sub e = record { class = less_rises; result = inr (λ v x y w h. sub_falls v x y w.0 (less_same v y v x (sym w.1)) h) }
open_second Mul e = by_wrap (λ x v. v * x) (λ v x y h. mul-le-mul_left v h)
open_second Divu e = absurd e
open_second Remu e = absurd e
open_second Sltu e = by_itself (flip less) less_rises

-- a word against itself

less_itself : (x : ℕ) → less x x ≡ 0
less_itself x = rw (le-ltb x x (omega arith))

-- what holds of SUB and of SLTU
pub with_itself : (P : Operation → Type 0) → P Sub → P Sltu → (op : Operation) → WithItself op → P op
with_itself P p q Add i = absurd i
with_itself P p q Sub i = p
with_itself P p q Mul i = absurd i
with_itself P p q Divu i = absurd i
with_itself P p q Remu i = absurd i
with_itself P p q Sltu i = q

pub class_itself : (op : Operation) → WithItself op → (x : ℕ) → sort_of op x x ≡ 0
unfolding sort_of
class_itself = with_itself (λ op. (x : ℕ) → sort_of op x x ≡ 0) less_itself less_itself

pub result_itself : (op : Operation) → WithItself op → (x : ℕ) → x < size → operate op x x ≡ 0
unfolding operate
result_itself = with_itself (λ op. (x : ℕ) → x < size → operate op x x ≡ 0) (λ x h. omega arith) (λ x h. less_itself x)

pub comparison_itself : (x : ℕ) → comparison x x ≡ 1
unfolding comparison
comparison_itself x = rw (le-ltb x x (omega arith), eq-eqb x x refl)
