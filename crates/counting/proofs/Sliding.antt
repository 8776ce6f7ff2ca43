-- One entry goes along the entries: a turn at each place, and the end.
-- Assumes nothing.
use mathlib.Core.Path.{◌≡◌, sym, ap, ◌∙◌}
use mathlib.Core.List.{List, [], ◌∷◌, ◌++◌, append_assoc}
use Prim.Native.Nat.{ℕ, zero, suc, ◌+◌, ◌<◌, ◌≤◌, ◌^◌}
use native.Mathlib.Numerals.{add-one}
use native.Mathlib.Omega.{arith}
use lib.ListN.{length, get_or, set, take, drop, take-append-drop}
use lib.Seq.{length-take-le, take-suc, drop-cons, slice, slice-cons, slice_empty, length-slice}
use lib.Seq.{take-set-lt, set_split, take-suc-set, drop-set-lt, drop-drop}
use borrow.Author.Tests.{lt-ltb, le-ltb, eq-eqb, ne_eqb}
use Rattle.counting.specs.Working.Adding.{entry, sum_of, carried, laid}
use Rattle.counting.specs.declared.adding.Entry.{Entry}

abbrev pub nothing : Entry
nothing = entry 0 0

-- The entries at hand, with the entry p still to go along the places from i to used: in the end the list `goal`, with `len` places used.
pub record Going (cur : List Entry) (used i : ℕ) (p : Entry) (goal : List Entry) (len : ℕ) : Type 0 where
  pub lists : take i cur ++ laid (carried p (slice i used cur)) (drop i cur) ≡ goal
  pub count : i + length (carried p (slice i used cur)) ≡ len
  pub fits : p.count + sum_of (slice i used cur) < 2 ^ 64

front : (cur : List Entry) (i : ℕ) (d : Entry) (rest : List Entry) → i < length cur
    → take (suc i) cur ++ rest ≡ take i cur ++ (get_or cur i d ∷ rest)
front cur i d rest h = ap (λ (l : List Entry). l ++ rest) (take-suc cur i d h) ∙ append_assoc (take i cur) (get_or cur i d ∷ []) rest

-- what stands from f on is the part up to t, and what comes after it
rest : (f t : ℕ) (cur : List Entry) → f ≤ t → t ≤ length cur → drop f cur ≡ laid (slice f t cur) (drop f cur)
rest zero t cur h k = sym (take-append-drop t cur) ∙ ap (λ (n : ℕ). take t cur ++ drop n cur) (sym (length-take-le t cur k))
rest (suc f) zero cur h k = absurd (omega arith)
rest (suc f) (suc t) [] h k = absurd (omega arith)
rest (suc f) (suc t) (x ∷ cur) h k = rest f t cur (omega arith) (omega arith)

module _ (cur : List Entry) (used i : ℕ) (p : Entry) (goal : List Entry) (len : ℕ) (h : i < used) (k : used ≤ length cur)
    (a : Going cur used i p goal len) where
  -- what the record says, with the entry at i taken out
  opened : take i cur ++ laid (carried p (get_or cur i nothing ∷ slice (suc i) used cur)) (get_or cur i nothing ∷ drop (suc i) cur) ≡ goal
  opened =
      ap (λ (l : List Entry). take i cur ++ laid (carried p l) (get_or cur i nothing ∷ drop (suc i) cur)) (sym (slice-cons i used cur nothing h k))
      ∙ ap (λ (l : List Entry). take i cur ++ laid (carried p (slice i used cur)) l) (sym (drop-cons cur i nothing (omega arith)))
      ∙ a.lists

  opened_count : i + length (carried p (get_or cur i nothing ∷ slice (suc i) used cur)) ≡ len
  opened_count = ap (λ (l : List Entry). i + length (carried p l)) (sym (slice-cons i used cur nothing h k)) ∙ a.count

  pub opened_fits : p.count + ((get_or cur i nothing).count + sum_of (slice (suc i) used cur)) < 2 ^ 64
  unfolding sum_of
  opened_fits = let e = ap sum_of (slice-cons i used cur nothing h k) in let f = a.fits in omega arith

  slice_set : slice (suc i) used (set cur i p) ≡ slice (suc i) used cur
  slice_set = ap (drop (suc i)) (take-set-lt used cur i p h) ∙ drop-set-lt (suc i) (take used cur) i p (omega arith)

  -- a greater value goes by
  pub passed : (get_or cur i nothing).value < p.value → Going cur used (i + 1) p goal len
  unfolding carried
  passed g =
      let e = get_or cur i nothing in
      let t : carried p (e ∷ slice (suc i) used cur) ≡ e ∷ carried p (slice (suc i) used cur) =
      rw (ne_eqb p.value e.value (λ x. omega arith), le-ltb p.value e.value (omega arith)) in
      let f = opened_fits in
      record {
        lists =
            rw add-one
            (front cur i nothing _ (omega arith)
            ∙ ap (λ (l : List Entry). take i cur ++ laid l (e ∷ drop (suc i) cur)) (sym t)
            ∙ opened);
        count = let l = ap length t in let c = opened_count in rw add-one (omega arith);
        fits = rw add-one (omega arith);
      }

  -- a smaller value takes the place, and the entry there goes on
  pub swapped : p.value < (get_or cur i nothing).value → Going (set cur i p) used (i + 1) (get_or cur i nothing) goal len
  unfolding carried
  swapped g =
      let e = get_or cur i nothing in
      let t : carried p (e ∷ slice (suc i) used cur) ≡ p ∷ carried e (slice (suc i) used cur) =
      rw (ne_eqb p.value e.value (λ x. omega arith), lt-ltb p.value e.value g) in
      let f = opened_fits in
      let d = drop-set-lt (suc i) cur i p (omega arith) in
      let s = slice_set in
      record {
        lists =
            rw (add-one, take-suc-set cur i p (omega arith), d, s)
            (append_assoc (take i cur) (p ∷ []) _
            ∙ ap (λ (l : List Entry). take i cur ++ laid l (e ∷ drop (suc i) cur)) (sym t)
            ∙ opened);
        count = let l = ap length t in let c = opened_count in rw (add-one, s) (omega arith);
        fits = rw (add-one, s) (omega arith);
      }

  -- an equal value is found: one store, and it is done
  pub hit : p.value ≡ (get_or cur i nothing).value
      → (set cur i (entry (get_or cur i nothing).value ((get_or cur i nothing).count + p.count)) ≡ goal) × (used ≡ len)
  unfolding carried
  hit g =
      let e = get_or cur i nothing in
      let t : carried p (e ∷ slice (suc i) used cur) ≡ entry p.value (p.count + e.count) ∷ slice (suc i) used cur =
      rw (eq-eqb p.value e.value g) in
      let sum : e.count + p.count ≡ p.count + e.count = omega arith in (
        ap (λ (n : ℕ). set cur i (entry e.value n)) sum
            ∙ set_split cur i _ (omega arith)
            ∙ ap (λ (v : ℕ). take i cur ++ entry v (p.count + e.count) ∷ drop (suc i) cur) (sym g)
            ∙ ap (λ (l : List Entry). take i cur ++ entry p.value (p.count + e.count) ∷ l) (rest (suc i) used cur h k)
            ∙ ap (λ (l : List Entry). take i cur ++ laid l (e ∷ drop (suc i) cur)) (sym t)
            ∙ opened,
        let l = ap length t in let c = opened_count in let n = length-slice (suc i) used cur k in omega arith,
      )

-- no entry is left: it takes the next place
pub ended : (cur : List Entry) (used i : ℕ) (p : Entry) (goal : List Entry) (len : ℕ) → i ≡ used → used < length cur
    → Going cur used i p goal len → (set cur used p ≡ goal) × (used + 1 ≡ len)
unfolding carried
ended cur used i p goal len q h a =
    let c = a.count in
    let s : slice i used cur ≡ [] = rw q (slice_empty used cur) in
    let t : carried p (slice i used cur) ≡ p ∷ [] = rw s in
    let n = ap length t in (
      set_split cur used p h
          ∙ ap (λ (k : ℕ). take k cur ++ p ∷ drop (suc k) cur) (sym q)
          ∙ ap (λ (l : List Entry). take i cur ++ p ∷ l) (sym (drop-drop 1 i cur ∙ ap (λ (k : ℕ). drop k cur) (add-one i)))
          ∙ ap (λ (l : List Entry). take i cur ++ laid l (drop i cur)) (sym t)
          ∙ a.lists,
      omega arith,
    )
