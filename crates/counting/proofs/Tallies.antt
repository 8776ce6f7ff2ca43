-- The tally of entries: each value once, in rising order, with the sum of its choices. That of the parts with a fixed exit value has
-- the values and the choices that the answer names.
-- Assumes nothing.
use mathlib.Core.Path.{◌≡◌, refl, sym, ap, ◌∙◌, subst}
use mathlib.Core.Logic.{◌↔◌, ⊎_elim}
use mathlib.Core.Bool.{Bool, true, false, cond}
use mathlib.Core.List.{List, [], ◌∷◌, map, map-map}
use mathlib.Core.List.Memᴰ
use mathlib.Core.List.Memᴰ.{head as here}
use mathlib.Core.List.Memᴰ.{tail as there}
use Prim.Native.Nat.{ℕ, zero, suc, ◌+◌, ◌<◌, ◌≤◌}
use native.Mathlib.Omega.{arith}
use lib.Dec.{ltb, eqb}
use lib.ListN.{length, get_or, length-map}
use borrow.Author.Tests.{ltb-true, ltb-false, eqb-true, eqb-false, lt-ltb, eq-eqb, ne_eqb}
use Rattle.boxes.specs.Boxes.{keep, ◌∈◌}
use Rattle.boxes.proofs.Lists.{by_test, map_cong, keep_map, keep_length}
use Rattle.counting.specs.Counting.{Result, is_fixed, exits_with, inserted, rising, exit_values}
use Rattle.counting.specs.Working.Adding.{Part, sum_on, results_of, entry, sum_of, carried}
use Rattle.counting.specs.declared.adding.Entry.{Entry}

-- numbers in rising order, each once

-- each is below all that come after it
abbrev pub Rising : List ℕ → Type 0
Rising [] = Unit {0}
Rising (x ∷ l) = ((y : ℕ) → y ∈ l → x < y) × Rising l

either : {C : Type 0} {x y : ℕ} {l : List ℕ} → (x ≡ y → C) → (x ∈ l → C) → x ∈ y ∷ l → C
either f g m = ⊎_elim f g (Memᴰ.cases_cons m)

-- cases on the order of two numbers, as `inserted` and `insert` ask for it
by_order : {C : Type 0} (x y : ℕ) → (eqb x y ≡ true → C) → (eqb x y ≡ false → ltb x y ≡ true → C)
    → (eqb x y ≡ false → ltb x y ≡ false → C) → C
by_order x y f g h = by_test (eqb x y) f (λ t. by_test (ltb x y) (g t) (h t))

inserted_mem : {z : ℕ} (x : ℕ) (l : List ℕ) → z ∈ inserted x l → z ∈ x ∷ l
unfolding inserted
inserted_mem x [] m = m
inserted_mem {z} x (y ∷ l) m =
    by_order x y
    (λ t. there (rw t at m))
    (λ t u. rw (t, u) at m)
    (λ t u.
    let n : z ∈ y ∷ inserted x l = rw (t, u) at m in
    either (λ e. there (here e)) (λ o. either here (λ k. there (there k)) (inserted_mem x l o)) n)

mem_inserted : {z : ℕ} (x : ℕ) (l : List ℕ) → z ∈ x ∷ l → z ∈ inserted x l
unfolding inserted
mem_inserted x [] m = m
mem_inserted x (y ∷ l) m =
    by_order x y
    (λ t. rw t (either (λ e. here (e ∙ eqb-true x y t)) (λ n. n) m))
    (λ t u. rw (t, u) m)
    (λ t u. rw (t, u) (either (λ e. there (mem_inserted x l (here e))) (λ n. either here (λ k. there (mem_inserted x l (there k))) n) m))

pub rising_mem : (l : List ℕ) (x : ℕ) → (x ∈ rising l) ↔ (x ∈ l)
unfolding rising
rising_mem [] x = (λ m. m, λ m. m)
rising_mem (y ∷ l) x =
    let (f, g) = rising_mem l x in (
      λ m. either here (λ n. there (f n)) (inserted_mem y (rising l) m),
      λ m. mem_inserted y (rising l) (either here (λ n. there (g n)) m),
    )

inserted_rises : (x : ℕ) (l : List ℕ) → Rising l → Rising (inserted x l)
unfolding inserted
inserted_rises x [] r = (λ y m. absurd (Memᴰ.not-nil m), tt)
inserted_rises x (y ∷ l) (b, r) =
    by_order x y
    (λ t. rw t (b, r))
    (λ t u. let h = ltb-true x y u in rw (t, u) (λ z m. either (λ e. omega arith) (λ n. omega (arith, b z n)) m, (b, r)))
    (λ t u.
    let ne = eqb-false x y t in
    let le = ltb-false x y u in
    rw (t, u) (λ z m. either (λ e. omega arith) (b z) (inserted_mem x l m), inserted_rises x l r))

rises : (l : List ℕ) → Rising (rising l)
unfolding rising
rises [] = tt
rises (x ∷ l) = inserted_rises x (rising l) (rises l)

places_rise : (l : List ℕ) (i : ℕ) → Rising l → suc i < length l → get_or l i 0 < get_or l (suc i) 0
places_rise [] i r h = absurd (omega arith)
places_rise (x ∷ []) i r h = absurd (omega arith)
places_rise (x ∷ y ∷ l) zero r h = r.0 y (here refl)
places_rise (x ∷ y ∷ l) (suc i) r h = places_rise (y ∷ l) i r.1 (omega arith)

pub values_rise : (rs : List Result) (i : ℕ) → suc i < length (exit_values rs) → get_or (exit_values rs) i 0 < get_or (exit_values rs) (suc i) 0
unfolding exit_values
values_rise rs i = let l = map (λ (r : Result). r.low) (keep is_fixed rs) in places_rise (rising l) i (rises l)

-- the tally

abbrev pub value_of : Entry → ℕ
value_of e = e.value

abbrev pub count_of : Entry → ℕ
count_of e = e.count

-- an entry into a list that rises: to the one of its value, or to its place
unfoldable pub insert : Entry → List Entry → List Entry
insert p [] = p ∷ []
insert p (e ∷ es) =
    cond (eqb p.value e.value) (entry p.value (p.count + e.count) ∷ es)
    (cond (ltb p.value e.value) (p ∷ e ∷ es) (e ∷ insert p es))

unfoldable pub tally : List Entry → List Entry
tally [] = []
tally (p ∷ es) = insert p (tally es)

insert_values : (p : Entry) (es : List Entry) → map value_of (insert p es) ≡ inserted p.value (map value_of es)
unfolding insert inserted
insert_values p [] = refl
insert_values p (e ∷ es) =
    by_order p.value e.value
    (λ t. rw t (ap (λ (v : ℕ). v ∷ map value_of es) (eqb-true p.value e.value t)))
    (λ t u. rw (t, u))
    (λ t u. rw (t, u) (ap (λ (l : List ℕ). e.value ∷ l) (insert_values p es)))

values_are : (es : List Entry) → map value_of (tally es) ≡ rising (map value_of es)
unfolding tally rising
values_are [] = refl
values_are (p ∷ es) = insert_values p (tally es) ∙ ap (inserted p.value) (values_are es)

pub tally_rises : (es : List Entry) → Rising (map value_of (tally es))
tally_rises es = subst Rising (sym (values_are es)) (rises (map value_of es))

insert_sum : (p : Entry) (es : List Entry) → sum_of (insert p es) ≡ p.count + sum_of es
unfolding insert sum_of
insert_sum p [] = refl
insert_sum p (e ∷ es) =
    by_order p.value e.value (λ t. rw t (omega arith)) (λ t u. rw (t, u)) (λ t u. let ih = insert_sum p es in rw (t, u) (omega arith))

pub tally_sum : (es : List Entry) → sum_of (tally es) ≡ sum_of es
unfolding tally sum_of
tally_sum [] = refl
tally_sum (p ∷ es) = insert_sum p (tally es) ∙ ap (λ (n : ℕ). p.count + n) (tally_sum es)

pub insert_length : (p : Entry) (es : List Entry) → (length es ≤ length (insert p es)) × (length (insert p es) ≤ suc (length es))
unfolding insert
insert_length p [] = (omega arith, omega arith)
insert_length p (e ∷ es) =
    by_order p.value e.value
    (λ t. rw t (omega arith, omega arith))
    (λ t u. rw (t, u) (omega arith, omega arith))
    (λ t u. let ih = insert_length p es in rw (t, u) (omega arith, omega arith))

tally_length : (es : List Entry) → length (tally es) ≤ length es
unfolding tally
tally_length [] = omega arith
tally_length (p ∷ es) = omega (arith, tally_length es, (insert_length p (tally es)).1)

-- in a rising list the code's way along the list is the insertion

pushed : (e : Entry) (es : List Entry) → Rising (map value_of (e ∷ es)) → carried e es ≡ e ∷ es
unfolding carried
pushed e [] r = refl
pushed e (f ∷ fs) (b, r) =
    let h = b f.value (here refl) in
    rw (ne_eqb e.value f.value (λ x. omega arith), lt-ltb e.value f.value h) (ap (λ (l : List Entry). e ∷ l) (pushed f fs r))

pub carries : (p : Entry) (es : List Entry) → Rising (map value_of es) → carried p es ≡ insert p es
unfolding carried insert
carries p [] r = refl
carries p (e ∷ es) r =
    by_order p.value e.value
    (λ t. rw t)
    (λ t u. rw (t, u) (ap (λ (l : List Entry). p ∷ l) (pushed e es r)))
    (λ t u. rw (t, u) (ap (λ (l : List Entry). e ∷ l) (carries p es r.1)))

-- the choices of a value

count_in : List Entry → ℕ → ℕ
count_in [] x = 0
count_in (e ∷ es) x = cond (eqb e.value x) e.count 0 + count_in es x

insert_count : (x : ℕ) (p : Entry) (es : List Entry) → count_in (insert p es) x ≡ count_in (p ∷ es) x
unfolding insert count_in
insert_count x p [] = refl
insert_count x p (e ∷ es) =
    by_order p.value e.value
    (λ t. rw (t, sym (eqb-true p.value e.value t)) (by_test (eqb p.value x) (λ u. rw u (omega arith)) (λ u. rw u (omega arith))))
    (λ t u. rw (t, u))
    (λ t u. let ih = insert_count x p es in rw (t, u, ih) (omega arith))

tally_count : (es : List Entry) (x : ℕ) → count_in (tally es) x ≡ count_in es x
unfolding tally count_in
tally_count [] x = refl
tally_count (p ∷ es) x = insert_count x p (tally es) ∙ ap (λ (n : ℕ). cond (eqb p.value x) p.count 0 + n) (tally_count es x)

absent : (x : ℕ) (es : List Entry) → ((y : ℕ) → y ∈ map value_of es → x < y) → count_in es x ≡ 0
unfolding count_in
absent x [] b = refl
absent x (e ∷ es) b =
    let h = b e.value (here refl) in
    let ih = absent x es (λ y m. b y (there m)) in
    rw (ne_eqb e.value x (λ q. omega arith), ih)

counts_are : (es : List Entry) → Rising (map value_of es) → map count_of es ≡ map (count_in es) (map value_of es)
unfolding count_in
counts_are [] r = refl
counts_are (e ∷ es) (b, r) =
    let first : e.count ≡ count_in (e ∷ es) e.value = rw (eq-eqb e.value e.value refl) (omega (arith, absent e.value es b)) in
    let others : map (count_in es) (map value_of es) ≡ map (count_in (e ∷ es)) (map value_of es) =
    map_cong (count_in es) (count_in (e ∷ es)) (map value_of es)
    (λ x m. let h = b x m in rw (ne_eqb e.value x (λ q. omega arith)) (omega arith)) in
    cc (counts_are es r)

-- the parts with a fixed exit value

abbrev pub entry_of : Part → Entry
entry_of p = entry p.result.low p.choices

abbrev pub part_fixed : Part → Bool
part_fixed p = is_fixed p.result

abbrev pub fixed_entries : List Part → List Entry
fixed_entries ps = map entry_of (keep part_fixed ps)

pub tally_few : (ps : List Part) → length (tally (fixed_entries ps)) ≤ length ps
tally_few ps = omega (arith, tally_length (fixed_entries ps), length-map (keep part_fixed ps) entry_of, keep_length part_fixed ps)

pub tally_values : (ps : List Part) → map value_of (tally (fixed_entries ps)) ≡ exit_values (results_of ps)
unfolding exit_values
tally_values ps =
    let low : Result → ℕ = λ r. r.low in
    let result : Part → Result = λ p. p.result in
    let kept = keep part_fixed ps in
    let lows : map value_of (map entry_of kept) ≡ map low (map result kept) = map-map value_of entry_of kept ∙ sym (map-map low result kept) in
    values_are (fixed_entries ps) ∙ ap rising (lows ∙ sym (ap (map low) (keep_map is_fixed result ps)))

pub values_few : (ps : List Part) → length (exit_values (results_of ps)) ≤ length ps
values_few ps = omega (arith, tally_few ps, length-map (tally (fixed_entries ps)) value_of, ap length (tally_values ps))

count_fixed : (ps : List Part) (x : ℕ) → count_in (fixed_entries ps) x ≡ sum_on (exits_with x) ps
unfolding keep count_in sum_on exits_with
count_fixed [] x = refl
count_fixed (p ∷ ps) x =
    let ih = count_fixed ps x in
    by_test (is_fixed p.result) (λ t. rw t (ap (λ (n : ℕ). cond (eqb p.result.low x) p.choices 0 + n) ih)) (λ t. rw t (omega arith))

pub tally_counts : (ps : List Part)
    → map count_of (tally (fixed_entries ps)) ≡ map (λ (x : ℕ). sum_on (exits_with x) ps) (exit_values (results_of ps))
tally_counts ps =
    let es = fixed_entries ps in
    counts_are (tally es) (tally_rises es)
    ∙ map_cong (count_in (tally es)) (λ (x : ℕ). sum_on (exits_with x) ps) (map value_of (tally es)) (λ x m. tally_count es x ∙ count_fixed ps x)
    ∙ ap (map (λ (x : ℕ). sum_on (exits_with x) ps)) (tally_values ps)

pub entries_sum : (ps : List Part) → sum_of (fixed_entries ps) ≡ sum_on is_fixed ps
unfolding keep sum_of sum_on
entries_sum [] = refl
entries_sum (p ∷ ps) =
    let ih = entries_sum ps in
    by_test (is_fixed p.result) (λ t. rw t (omega arith)) (λ t. rw t (omega arith))
