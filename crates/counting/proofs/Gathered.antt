-- The two arrays in the loop over the parts, from the last to the first: they hold the tally of the parts that were read.
-- Assumes nothing.
use mathlib.Core.Path.{◌≡◌, refl, sym, ap, ◌∙◌}
use mathlib.Core.Bool.{Bool, true, false}
use mathlib.Core.List.{List, [], ◌∷◌, ◌++◌, map}
use Prim.Native.Nat.{ℕ, zero, suc, ◌+◌, ◌-◌, ◌<◌, ◌≤◌, ◌^◌}
use native.Mathlib.Omega.{arith}
use lib.ListN.{length, take, drop, replicate, length-map, length-append, length-drop, length-replicate}
use lib.Seq.{take-append_seam, drop-append-add, drop-drop}
use Rattle.boxes.specs.Boxes.{keep}
use Rattle.boxes.proofs.Lists.{by_test}
use Rattle.counting.specs.Counting.{Result, is_fixed, exits_with, exit_values, most_paths, in_places}
use Rattle.counting.specs.Promised.{add_all}
use Rattle.counting.specs.Working.Adding.{Part, sum_on, sum_all, results_of, entry, sum_of, carried, laid, Room, Added}
use Rattle.counting.specs.declared.adding.Entry.{Entry}
use Rattle.counting.proofs.Sliding.{nothing}
use Rattle.counting.proofs.Tallies.{value_of, count_of, tally, tally_rises, tally_sum, insert_length, carries, entry_of, fixed_entries}
use Rattle.counting.proofs.Tallies.{tally_few, tally_values, tally_counts, entries_sum}

-- a list over the front of another

-- a longer list over a shorter one
laid_laid : (es fs old : List Entry) → length es ≤ length fs → laid fs (laid es old) ≡ laid fs old
laid_laid es fs old h =
    let n : length fs ≡ length es + (length fs - length es) = omega arith in
    let m = length fs - length es in
    ap (λ (l : List Entry). fs ++ l)
    (ap (λ (k : ℕ). drop k (laid es old)) n
    ∙ drop-append-add es (drop (length es) old) m
    ∙ drop-drop m (length es) old
    ∙ ap (λ (k : ℕ). drop k old) (sym n))

map_zeros : (f : Entry → ℕ) (n : ℕ) → map f (replicate n nothing) ≡ replicate n (f nothing)
map_zeros f zero = refl
map_zeros f (suc n) = ap (λ (l : List ℕ). f nothing ∷ l) (map_zeros f n)

map_laid : (f : Entry → ℕ) (es : List Entry) (n : ℕ) → length es ≤ n
    → map f (laid es (replicate n nothing)) ≡ map f es ++ replicate (n - length (map f es)) (f nothing)
map_laid f [] n h = let q : n - 0 ≡ n = omega arith in rw q (map_zeros f n)
map_laid f (e ∷ es) zero h = absurd (omega arith)
map_laid f (e ∷ es) (suc n) h =
    let q : suc n - suc (length (map f es)) ≡ n - length (map f es) = omega arith in
    rw q (ap (λ (l : List ℕ). f e ∷ l) (map_laid f es n (omega arith)))

-- the sums

pub sum_most : (test : Result → Bool) (ps : List Part) → sum_on test ps ≤ sum_all ps
unfolding sum_on sum_all
sum_most test [] = omega arith
sum_most test (p ∷ ps) =
    let ih = sum_most test ps in
    by_test (test p.result) (λ t. rw t (omega arith)) (λ t. rw t (omega arith))

all_counts : (es : List Entry) → add_all (map count_of es) ≡ sum_of es
unfolding add_all sum_of
all_counts [] = refl
all_counts (e ∷ es) = ap (λ (n : ℕ). e.count + n) (all_counts es)

pub fixed_sum : (ps : List Part) → add_all (map (λ (x : ℕ). sum_on (exits_with x) ps) (exit_values (results_of ps))) ≡ sum_on is_fixed ps
fixed_sum ps =
    let es = fixed_entries ps in
    ap add_all (sym (tally_counts ps)) ∙ all_counts (tally es) ∙ tally_sum es ∙ entries_sum ps

-- the loop's state

pub record Gathered (ps : List Part) (places : List Entry) (used : ℕ) : Type 0 where
  pub lists : places ≡ laid (tally (fixed_entries ps)) (replicate most_paths nothing)
  pub count : used ≡ length (tally (fixed_entries ps))

pub none_gathered : Gathered [] (replicate most_paths nothing) 0
unfolding keep tally
none_gathered = record { lists = refl; count = refl }

fixed_other : (p : Part) (ps : List Part) → is_fixed p.result ≡ false → fixed_entries (p ∷ ps) ≡ fixed_entries ps
unfolding keep
fixed_other p ps e = rw e

fixed_more : (p : Part) (ps : List Part) → is_fixed p.result ≡ true → fixed_entries (p ∷ ps) ≡ entry_of p ∷ fixed_entries ps
unfolding keep
fixed_more p ps e = rw e

module _ {ps : List Part} {places : List Entry} {used : ℕ} where
  pub other_gathered : (p : Part) → is_fixed p.result ≡ false → Gathered ps places used → Gathered (p ∷ ps) places used
  other_gathered p f a =
      let e = sym (fixed_other p ps f) in
      record {
        lists = a.lists ∙ ap (λ (es : List Entry). laid (tally es) (replicate most_paths nothing)) e;
        count = a.count ∙ ap (λ (es : List Entry). length (tally es)) e;
      }

  -- the used part of the places
  entries : Gathered ps places used → take used places ≡ tally (fixed_entries ps)
  entries a =
      let es = tally (fixed_entries ps) in
      let old = replicate most_paths nothing in
      ap (take used) a.lists ∙ ap (λ (k : ℕ). take k (laid es old)) a.count ∙ take-append_seam es (drop (length es) old)

  pub gathered_wide : Gathered ps places used → length ps ≤ most_paths → length places ≡ most_paths
  gathered_wide a s =
      let es = tally (fixed_entries ps) in
      let old = replicate most_paths nothing in
      omega (
        arith,
        ap (λ (l : List Entry). length l) a.lists,
        length-append es (drop (length es) old),
        length-drop (length es) old,
        length-replicate {A = Entry} most_paths nothing,
        tally_few ps,
      )

  pub gathered_room : Gathered ps places used → (p : Part) → suc (length ps) ≤ most_paths → p.choices + sum_all ps < 2 ^ 64
      → Room places used (entry p.result.low p.choices)
  gathered_room a p s f =
      let few = tally_few ps in
      let wide = gathered_wide a (omega arith) in
      let sum = ap sum_of (entries a) ∙ tally_sum (fixed_entries ps) ∙ entries_sum ps in
      let most = sum_most is_fixed ps in
      record { free = omega arith; fits = omega arith }

  pub more_gathered : {after : List Entry} {r : ℕ} → Gathered ps places used → (p : Part) → is_fixed p.result ≡ true
      → Added places used (entry p.result.low p.choices) after r → Gathered (p ∷ ps) after r
  unfolding tally
  more_gathered a p f s =
      let q = entry_of p in
      let es = fixed_entries ps in
      let now = tally (fixed_entries (p ∷ ps)) in
      let old = replicate most_paths nothing in
      let t = ap tally (fixed_more p ps f) in
      let e : carried q (take used places) ≡ now = ap (carried q) (entries a) ∙ carries q (tally es) (tally_rises es) ∙ sym t in
      let n = insert_length q (tally es) in
      let m = ap length t in
      record {
        lists =
            s.lists
            ∙ ap (λ (l : List Entry). laid l places) e
            ∙ ap (λ (l : List Entry). laid now l) a.lists
            ∙ laid_laid (tally es) now old (omega arith);
        count = s.count ∙ ap length e;
      }

  places_hold : (f : Entry → ℕ) → Gathered ps places used → length ps ≤ most_paths
      → let ns = map f (tally (fixed_entries ps)) in map f places ≡ ns ++ replicate (most_paths - length ns) (f nothing)
  places_hold f a s = ap (map f) a.lists ∙ map_laid f (tally (fixed_entries ps)) most_paths (omega (arith, tally_few ps))

  pub gathered_values : Gathered ps places used → length ps ≤ most_paths → map value_of places ≡ in_places (exit_values (results_of ps))
  gathered_values a s = places_hold value_of a s ∙ ap in_places (tally_values ps)

  pub gathered_choices : Gathered ps places used → length ps ≤ most_paths
      → map count_of places ≡ in_places (map (λ (x : ℕ). sum_on (exits_with x) ps) (exit_values (results_of ps)))
  gathered_choices a s = places_hold count_of a s ∙ ap in_places (tally_counts ps)

  pub gathered_used : Gathered ps places used → used ≡ length (exit_values (results_of ps))
  gathered_used a = a.count ∙ sym (length-map (tally (fixed_entries ps)) value_of) ∙ ap length (tally_values ps)
