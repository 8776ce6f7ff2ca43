-- Records, rows and values, one more at a time.
-- Assumes nothing.
use mathlib.Core.Path.{◌≡◌, refl, sym, ap, ◌∙◌}
use mathlib.Core.Logic.{◌↔◌}
use mathlib.Core.Bool.{Bool, true, false, ◌&&◌, cond, false≢true, and-eq-true_iff, and_assoc}
use mathlib.Core.List.{List, [], ◌∷◌, map, map-map}
use Prim.Native.Nat.{ℕ, zero, suc, ◌+◌, ◌-◌, ◌*◌, ◌<◌, ◌≤◌}
use native.Mathlib.Nat.{zero-add}
use native.Mathlib.Numerals.{add-one}
use native.Mathlib.Omega.{arith}
use lib.Dec.{leb}
use lib.ListN.{length, get_or, drop, length-map, length-drop, drop_of_length-le}
use lib.Seq.{get_or-take, get_or-drop, drop-cons, length-take-le}
use borrow.Author.Tests.{le-leb, leb-true}
use Rattle.boxes.specs.Boxes.{Choice, Box, ◌⋯◌, from, every, Inside}
use Rattle.boxes.proofs.Lists.{length_from, from_at}
use Rattle.blocks.specs.Block.{each}
use Rattle.blocks.specs.Report.{records_in, record_at}
use Rattle.blocks.specs.Said.{Said, input_in, said_in}
use Rattle.blocks.proofs.Records.{part_inside}
use Rattle.reports.specs.Readable.{records_of, all_said, has_count}
use Rattle.reports.specs.Placing.{rows_in, row_at, is_inside, no_path, placing, placings}

-- a test of every element, by its number
every_each : {A : Type 0} (p : A → Bool) (f : ℕ → A) (n k : ℕ) → every p (map f (from k n)) ≡ each (λ (i : ℕ). p (f i)) k n
unfolding every from each
every_each p f zero k = refl
every_each p f (suc n) k = ap (λ (t : Bool). p (f k) && t) (every_each p f n (suc k))

-- the count in word 4 of record k
abbrev pub count_at : ℕ → List ℕ → ℕ → Bool
count_at n report k = has_count n (record_at n report k)

pub counts_each : (n : ℕ) (report : List ℕ) → every (has_count n) (records_of n report) ≡ each (count_at n report) 0 (records_in n report)
counts_each n report = every_each (has_count n) (record_at n report) (records_in n report) 0

-- the placing in the records k to e - 1, of which f gives each
module _ (f : ℕ → Said) (row : List ℕ) (k e : ℕ) where
  more : k < e → placing (map f (from k (e - k))) row
      ≡ cond (is_inside row (f k).box) (f k).number (placing (map f (from (k + 1) (e - (k + 1)))) row)
  unfolding placing from
  more h = let m : e - k ≡ suc (e - suc k) = omega arith in rw (add-one k, m)

  pub placing_stop : k < e → is_inside row (f k).box ≡ true → placing (map f (from k (e - k))) row ≡ (f k).number
  placing_stop h y = more h ∙ rw y

  pub placing_go : k < e → is_inside row (f k).box ≡ false
      → placing (map f (from k (e - k))) row ≡ placing (map f (from (k + 1) (e - (k + 1)))) row
  placing_go h y = more h ∙ rw y

  pub placing_end : e ≤ k → placing (map f (from k (e - k))) row ≡ no_path
  unfolding placing from
  placing_end h = let z : e - k ≡ 0 = omega arith in rw z

-- a row in a box, value by value
pub inside_test : (c : Choice) (b : Box) → (is_inside c b ≡ true) ↔ Inside c b
unfolding is_inside
inside_test [] [] = (λ e. tt, λ h. refl)
inside_test [] (v ∷ b) = (λ e. false≢true e, λ h. absurd h)
inside_test (x ∷ c) [] = (λ e. false≢true e, λ h. absurd h)
inside_test (x ∷ c) (v ∷ b) = (
  λ e.
      let (l, r) = (and-eq-true_iff (leb v.low x) (leb x v.high && is_inside c b)).0 e in
      let (h, i) = (and-eq-true_iff (leb x v.high) (is_inside c b)).0 r in
      (leb-true v.low x l, leb-true x v.high h, (inside_test c b).0 i),
  λ h. rw (le-leb v.low x h.0, le-leb x v.high h.1) ((inside_test c b).1 h.2),
)

-- row k of n values, and the box of a record of n inputs, from value i on
module _ (n : ℕ) (rows : List ℕ) (k : ℕ) (inside : k < rows_in n rows) (bytes : List ℕ) where
  abbrev row : List ℕ
  row = row_at n rows k

  abbrev box : Box
  box = (said_in n bytes).box

  abbrev inside_from : ℕ → Bool
  inside_from i = is_inside (drop i row) (drop i box)

  row_length : length row ≡ n
  row_length = length-take-le n (drop (n * k) rows) (rw length-drop (omega (arith, part_inside n rows k inside)))

  box_length : length box ≡ n
  box_length = length-map (from 0 n) (input_in n bytes) ∙ length_from n 0

  inside_end : (i : ℕ) → n ≤ i → inside_from i ≡ true
  unfolding is_inside
  inside_end i h =
      rw (drop_of_length-le row {i = i} (omega (arith, row_length)), drop_of_length-le box {i = i} (omega (arith, box_length)))

  -- the code's test of value i
  abbrev pub tested : ℕ → Bool
  tested i = let x = get_or rows (n * k + i) 0 in let v = input_in n bytes i in leb v.low x && leb x v.high

  from_here : (i : ℕ) → i < n → inside_from i ≡ tested i && inside_from (i + 1)
  unfolding is_inside
  from_here i h =
      let x = get_or-take n (drop (n * k) rows) i 0 h ∙ get_or-drop (n * k) rows i 0 in
      let v = from_at (input_in n bytes) (0 ⋯ 0) n 0 i h ∙ ap (input_in n bytes) (zero-add i) in
      rw (add-one i, drop-cons row i 0 (omega (arith, row_length)), drop-cons box i (0 ⋯ 0) (omega (arith, box_length)), x, v)
      (sym (and_assoc (leb (input_in n bytes i).low (get_or rows (n * k + i) 0)) (leb (get_or rows (n * k + i) 0) (input_in n bytes i).high) (is_inside (drop (suc i) row) (drop (suc i) box))))

  pub inside_each : (m i : ℕ) → i + m ≡ n → inside_from i ≡ each tested i m
  unfolding each
  inside_each zero i e = inside_end i (omega arith)
  inside_each (suc m) i e =
      from_here i (omega arith) ∙ ap (λ (b : Bool). tested i && b) (inside_each m (i + 1) (omega arith) ∙ ap (λ (j : ℕ). each tested j m) (add-one i))

-- the placings, by the number of the row
module _ (n : ℕ) (report rows : List ℕ) where
  abbrev pub placing_at : ℕ → ℕ
  placing_at k = placing (all_said n report) (row_at n rows k)

  pub placings_are : placings n report rows ≡ map placing_at (from 0 (rows_in n rows))
  placings_are = map-map (placing (all_said n report)) (row_at n rows) (from 0 (rows_in n rows))
