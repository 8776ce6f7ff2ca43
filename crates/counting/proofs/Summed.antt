-- What the code holds in the loop over the records, from the last to the first: the sums of the parts that were read.
-- Assumes nothing.
use mathlib.Core.Path.{◌≡◌, refl, sym, ap, ◌∙◌}
use mathlib.Core.Logic.{◌≢◌}
use mathlib.Core.List.{List, [], ◌∷◌, map}
use Prim.Native.Nat.{ℕ, zero, suc, ◌+◌, ◌-◌, ◌^◌, ◌≤◌, ◌<◌}
use native.Mathlib.Nat.{zero-add}
use native.Mathlib.Omega.{arith}
use native.Mathlib.Decide.{ℕ_discrete}
use borrow.Author.Tests.{eq-eqb, ne_eqb}
use denote.Param.Members.{Mut}
use Rattle.std.specs.Array.{IsMapOf}
use Rattle.std.specs.Fn.{Called}
use lib.ListN.{length, get_or, get_or-map, set, drop, replicate, length-map, length-set, length-drop, drop_of_length-le}
use lib.Seq.{drop-cons, ext_get_or, get_or-set_same, get_or-set_other}
use Rattle.boxes.specs.Boxes.{from, size}
use Rattle.boxes.proofs.Lists.{map_cong, from_at, length_from}
use Rattle.blocks.specs.Said.{said_at}
use Rattle.listing.specs.Numbers.{kind_number}
use Rattle.listing.specs.declared.End.TheVariants.{Exit}
use Rattle.counting.specs.Counting.{is_exit, is_fixed, exit_varies, other_kind, most_paths, kind_places, counts_by}
use Rattle.counting.specs.Working.Adding.{FitsWord, Part, part_in, parts_in, sum_on, sum_all, added_up, Adds, entry, Room, Added}
use Rattle.counting.specs.declared.adding.Entry.{Entry}
use Rattle.counting.proofs.Sliding.{nothing}
use Rattle.counting.proofs.Tallies.{value_of, count_of}
use Rattle.counting.proofs.Gathered.{Gathered, none_gathered, other_gathered, gathered_wide, gathered_room, more_gathered, gathered_values, gathered_choices, gathered_used, sum_most}

abbrev pub part : ℕ → ℕ → ℕ → ℕ → Part
part kind low high n = record { result = record { kind = kind; low = low; high = high }; choices = n }

-- the choices of each other kind
abbrev kind_sums : List Part → List ℕ
kind_sums ps = map (λ (k : ℕ). sum_on (other_kind k) ps) (from 0 kind_places)

pub record Summed (ps : List Part) (places : List Entry) (kinds : List ℕ) (used varying : ℕ) : Type 0 where
  pub gathered : Gathered ps places used
  pub others : kinds ≡ kind_sums ps
  pub varies : varying ≡ sum_on exit_varies ps

-- an array that a function gives of each entry of another
pub mapped : {F : Type 0} {g : Mut F (Entry × Unit {0}) ℕ} {f : F} {n : ℕ} (h : Entry → ℕ) (es : List Entry) (ns : List ℕ) → IsMapOf g f es ns n
    → ((p q : F) (e : Entry) (r : ℕ) → Called g p (e, tt) r q → r ≡ h e) → length es ≡ n → ns ≡ map h es
mapped h es ns m called l =
    ext_get_or (h nothing) ns (map h es) (m.long ∙ sym l ∙ sym (length-map es h))
    (λ i b. let (p, q, c) = m.at i nothing (h nothing) (omega (arith, m.long)) in called p q _ _ c ∙ sym (get_or-map h es i nothing))

sums_length : (ps : List Part) → length (kind_sums ps) ≡ kind_places
sums_length ps = length-map (from 0 kind_places) _ ∙ length_from kind_places 0

sum_at : (ps : List Part) (k : ℕ) → k < kind_places → get_or (kind_sums ps) k 0 ≡ sum_on (other_kind k) ps
sum_at ps k h = from_at (λ (i : ℕ). sum_on (other_kind i) ps) 0 kind_places 0 k h ∙ rw zero-add

pub none_summed : {ps : List Part} → ps ≡ [] → Summed ps (replicate most_paths nothing) (replicate kind_places 0) 0 0
unfolding sum_on from
none_summed e = rw e (record { gathered = none_gathered; others = refl; varies = refl })

module _ {ps : List Part} {places : List Entry} {kinds : List ℕ} {used varying : ℕ} (h : Summed ps places kinds used varying) where
  kind_summed : (k : ℕ) → k < kind_places → get_or kinds k 0 ≡ sum_on (other_kind k) ps
  kind_summed k l = ap (λ (ks : List ℕ). get_or ks k 0) h.others ∙ sum_at ps k l

  -- nothing overflows
  module _ (n : ℕ) (f : n + sum_all ps < 2 ^ 64) where
    pub kind_fits : (k : ℕ) → k < kind_places → get_or kinds k 0 + n < 2 ^ 64
    kind_fits k l = omega (arith, kind_summed k l, sum_most (other_kind k) ps)

    pub varying_fits : varying + n < 2 ^ 64
    varying_fits = omega (arith, h.varies, sum_most exit_varies ps)

    pub value_room : (x : ℕ) → suc (length ps) ≤ most_paths → Room places used (entry x n)
    value_room x l = gathered_room h.gathered (part 0 x x n) l f

  -- one more part
  module _ (kind low high n : ℕ) {qs : List Part} (q : qs ≡ part kind low high n ∷ ps) where
    abbrev p : Part
    p = part kind low high n

    -- an exit leaves the other kinds as they were
    exit_others : kind ≡ kind_number Exit → kinds ≡ kind_sums (p ∷ ps)
    unfolding sum_on other_kind is_exit
    exit_others e =
        h.others
        ∙ map_cong (λ (k : ℕ). sum_on (other_kind k) ps) (λ (k : ℕ). sum_on (other_kind k) (p ∷ ps)) (from 0 kind_places)
        (λ k m. rw (eq-eqb kind (kind_number Exit) e) (sym (zero-add (sum_on (other_kind k) ps))))

    other_sums : kind ≢ kind_number Exit → kind < kind_places → set kinds kind (get_or kinds kind 0 + n) ≡ kind_sums (p ∷ ps)
    unfolding sum_on other_kind is_exit
    other_sums e l =
        let more = get_or kinds kind 0 + n in
        let size = ap length h.others ∙ sums_length ps in
        let x = ne_eqb kind (kind_number Exit) e in
        ext_get_or 0 (set kinds kind more) (kind_sums (p ∷ ps)) (length-set kinds kind more ∙ size ∙ sym (sums_length (p ∷ ps)))
        (λ i m.
        let b : i < kind_places = omega (arith, size, length-set kinds kind more) in
        elim (ℕ_discrete i kind) [
          | yes d ↦ rw d (get_or-set_same kinds kind more 0 (omega (arith, size)) ∙ sym (sum_at (p ∷ ps) kind l ∙ rw (x, eq-eqb kind kind refl) (omega (arith, kind_summed kind l))))
          | no d ↦ get_or-set_other kinds kind i more 0 d ∙ kind_summed i b ∙ sym (sum_at (p ∷ ps) i b ∙ rw (x, ne_eqb kind i (λ z. d (sym z))) (zero-add (sum_on (other_kind i) ps)))
        ])

    pub other_summed : kind ≢ kind_number Exit → kind < kind_places → Summed qs places (set kinds kind (get_or kinds kind 0 + n)) used varying
    unfolding sum_on exit_varies is_fixed is_exit
    other_summed e l =
        let x = ne_eqb kind (kind_number Exit) e in
        rw q
        (record {
          gathered = other_gathered p (rw x) h.gathered;
          others = other_sums e l;
          varies = rw x (h.varies ∙ sym (zero-add (sum_on exit_varies ps)));
        })

    pub varying_summed : kind ≡ kind_number Exit → low ≢ high → Summed qs places kinds used (varying + n)
    unfolding sum_on exit_varies is_fixed is_exit
    varying_summed e d =
        let x = eq-eqb kind (kind_number Exit) e in
        let y = ne_eqb low high d in
        rw q
        (record {
          gathered = other_gathered p (rw (x, y)) h.gathered;
          others = exit_others e;
          varies = rw (x, y) (omega (arith, h.varies));
        })

    pub fixed_summed : {after : List Entry} {r : ℕ} → kind ≡ kind_number Exit → low ≡ high → Added places used (entry low n) after r
        → Summed qs after kinds r varying
    unfolding sum_on exit_varies is_fixed is_exit
    fixed_summed e d a =
        let x = eq-eqb kind (kind_number Exit) e in
        let y = eq-eqb low high d in
        rw q
        (record {
          gathered = more_gathered h.gathered p (rw (x, y)) a;
          others = exit_others e;
          varies = rw (x, y) (h.varies ∙ sym (zero-add (sum_on exit_varies ps)));
        })

sum_drop : (ps : List Part) (k : ℕ) → sum_all (drop k ps) ≤ sum_all ps
unfolding sum_all
sum_drop ps zero = omega arith
sum_drop [] (suc k) = omega arith
sum_drop (p ∷ ps) (suc k) = omega (arith, sum_drop ps k)

module _ {report : List ℕ} {inputs count total : ℕ} (a : Adds report inputs count total) where
  abbrev parts : List Part
  parts = parts_in inputs report count

  parts_length : length parts ≡ count
  unfolding parts_in
  parts_length = length-map (from 0 count) _ ∙ length_from count 0

  pub all_left : drop count parts ≡ []
  all_left = drop_of_length-le parts {i = count} (omega (arith, parts_length))

  -- the record before k
  module _ {k kind low high n : ℕ} (some : 0 < k) (few : k ≤ count) (is_size : n ≡ size (said_at inputs report (k - 1)).box)
      (is_kind : kind ≡ (said_at inputs report (k - 1)).kind) (is_low : low ≡ (said_at inputs report (k - 1)).exit.low)
      (is_high : high ≡ (said_at inputs report (k - 1)).exit.high) where
    pub next : drop (k - 1) parts ≡ part kind low high n ∷ drop k parts
    unfolding parts_in
    next =
        let f : ℕ → Part = λ i. part_in (said_at inputs report i) in
        let z : suc (k - 1) ≡ k = omega arith in
        drop-cons parts (k - 1) (f 0) (omega (arith, parts_length))
        ∙ ap (λ (i : ℕ). get_or parts (k - 1) (f 0) ∷ drop i parts) z
        ∙ ap (λ (p : Part). p ∷ drop k parts) (from_at f (f 0) count 0 (k - 1) (omega arith) ∙ rw zero-add (λ q. part (sym is_kind q) (sym is_low q) (sym is_high q) (sym is_size q)))

    pub next_fits : n + sum_all (drop k parts) < 2 ^ 64
    unfolding sum_all
    next_fits = omega (arith, ap sum_all next, sum_drop parts (k - 1), a.sum, a.fits)

  pub next_few : (k : ℕ) → 0 < k → k ≤ count → suc (length (drop k parts)) ≤ most_paths
  next_few k some few = omega (arith, length-drop k parts, parts_length, a.few)

  pub kind_below : {k kind : ℕ} → 0 < k → k ≤ count → kind ≡ (said_at inputs report (k - 1)).kind → kind < kind_places
  kind_below {k} some few e = omega (arith, a.kinds (k - 1) (omega arith))

  pub size_countable : (k : ℕ) → 0 < k → k ≤ count → FitsWord (said_at inputs report (k - 1)).box
  size_countable k some few =
      record { proper = a.proper (k - 1) (omega arith); fits = omega (arith, next_fits some few refl refl refl refl) }

  pub all_summed : {places : List Entry} {values choices kinds : List ℕ} {used varying : ℕ} → Summed parts places kinds used varying
      → (length places ≡ most_paths → values ≡ map value_of places) → (length places ≡ most_paths → choices ≡ map count_of places)
      → record { refused = 0; used = used; values = values; choices = choices; varying = varying; kinds = kinds; total = total } ≡ added_up parts total
  unfolding added_up counts_by
  all_summed h vs cs =
      let l : length parts ≤ most_paths = omega (arith, parts_length, a.few) in
      let w = gathered_wide h.gathered l in
      λ q. record {
        refused = 0;
        used = gathered_used h.gathered q;
        values = (vs w ∙ gathered_values h.gathered l) q;
        choices = (cs w ∙ gathered_choices h.gathered l) q;
        varying = h.varies q;
        kinds = h.others q;
        total = total;
      }
