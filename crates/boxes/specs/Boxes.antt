-- Choices of inputs, boxes of them, and what holds over all the choices of a box: the least and the greatest value, whether a
-- value is fixed, and the pieces into which a class sorts the choices. All of it is by listing the choices, so it is to be read
-- and not to be run: a box may hold more choices than can be listed. `Cuts` has what runs, and the laws say that it agrees.
use Rattle.std.specs.Prelude.{Bool, true, not, ◌&&◌, cond, ℕ, zero, suc, ◌-◌, ◌≤◌, min, max, eqb, length, get_or}
use mathlib.Core.List.{List, [], ◌∷◌, map, tail, flat_map, Memᴰ}

-- a stands in the list
infix 50 ◌∈◌
abbrev pub ◌∈◌ : {A : Type 0} → A → List A → Type 0
a ∈ l = Memᴰ a l

-- A choice gives each input one value. A box gives each input its lowest and its highest value.

abbrev pub Choice : Type 0
Choice = List ℕ

pub record Interval : Type 0 where
  pub low : ℕ
  pub high : ℕ

infix 70 ◌⋯◌
abbrev pub ◌⋯◌ : ℕ → ℕ → Interval
x ⋯ y = record { low = x; high = y }

abbrev pub Box : Type 0
Box = List Interval

-- the value of input i, counted from 0
abbrev pub at : Choice → ℕ → ℕ
at c i = get_or c i 0

-- the lowest and the highest choice
abbrev pub lows : Box → Choice
lows b = map (λ (v : Interval). v.low) b

abbrev pub highs : Box → Choice
highs b = map (λ (v : Interval). v.high) b

-- the choice lies in the box: it has as many values, each in its interval
abbrev pub Inside : Choice → Box → Type 0
Inside [] [] = Unit {0}
Inside [] (v ∷ b) = ⊥
Inside (x ∷ c) [] = ⊥
Inside (x ∷ c) (v ∷ b) = (v.low ≤ x) × (x ≤ v.high) × Inside c b

abbrev pub Within : Box → Box → Type 0
Within a b = (c : Choice) → Inside c a → Inside c b

-- The choices of a box.

-- n numbers: x, x + 1, ..
unfoldable pub from : ℕ → ℕ → List ℕ
from x zero = []
from x (suc n) = x ∷ from (suc x) n

unfoldable pub width : Interval → ℕ
width v = suc v.high - v.low

-- the numbers of an interval, rising; none where low is above high
unfoldable pub values : Interval → List ℕ
values v = from v.low (width v)

-- the choices of a list with one more input in front, of value x
abbrev pub prefixed : List Choice → ℕ → List Choice
prefixed l x = map (λ (c : Choice). x ∷ c) l

-- all the choices in a box, the first input slowest
unfoldable pub choices : Box → List Choice
choices [] = [] ∷ []
choices (v ∷ b) = flat_map (prefixed (choices b)) (values v)

unfoldable pub size : Box → ℕ
size b = length (choices b)

-- The least and the greatest of a list (0 where it is empty), and whether it is one value all over.

unfoldable pub best : (ℕ → ℕ → ℕ) → List ℕ → ℕ
best op [] = 0
best op (x ∷ []) = x
best op (x ∷ y ∷ l) = op x (best op (y ∷ l))

unfoldable pub least : List ℕ → ℕ
least l = best min l

unfoldable pub greatest : List ℕ → ℕ
greatest l = best max l

unfoldable pub every : {A : Type 0} → (A → Bool) → List A → Bool
every p [] = true
every p (x ∷ l) = p x && every p l

unfoldable pub same : List ℕ → Bool
same [] = true
same (x ∷ l) = every (eqb x) l

-- A value f that hangs on the choice, over a box.

unfoldable pub low : (Choice → ℕ) → Box → ℕ
low f b = least (map f (choices b))

unfoldable pub high : (Choice → ℕ) → Box → ℕ
high f b = greatest (map f (choices b))

unfoldable pub fixed : (Choice → ℕ) → Box → Bool
fixed f b = same (map f (choices b))

-- The pieces of a box: its choices sorted by their class, the classes in the order in which they first appear, each as a box.

-- the elements that pass a test, in order
unfoldable pub keep : {A : Type 0} → (A → Bool) → List A → List A
keep p [] = []
keep p (x ∷ l) = cond (p x) (x ∷ keep p l) (keep p l)

-- the values of a list, each once, in the order in which they first appear
unfoldable pub classes : List ℕ → List ℕ
classes [] = []
classes (x ∷ l) = x ∷ keep (λ (y : ℕ). not (eqb y x)) (classes l)

-- choices of n inputs as a box: for each input the least and the greatest of its values
unfoldable pub hull : ℕ → List Choice → Box
hull zero l = []
hull (suc n) l =
    let xs = map (λ (c : Choice). at c 0) l in
    (least xs ⋯ greatest xs) ∷ hull n (map tail l)

unfoldable pub piece : (Choice → ℕ) → Box → ℕ → Box
piece k b v = hull (length b) (keep (λ (c : Choice). eqb (k c) v) (choices b))

unfoldable pub pieces : (Choice → ℕ) → Box → List Box
pieces k b = map (piece k b) (classes (map k (choices b)))
