-- What a call answers: its refusals, and that its counts are those of the job's choices and add up to all of them.
-- Assumes nothing.
use mathlib.Core.Path.{◌≡◌, refl, sym, ap, ◌∙◌, subst}
use mathlib.Core.Bool.{Bool, true, ◌&&◌, not, and-eq-true_iff, false≢true}
use mathlib.Core.Logic.{◌↔◌}
use mathlib.Core.List.Memᴰ
use mathlib.Core.List.Memᴰ.{head as here}
use mathlib.Core.List.Memᴰ.{tail as there}
use mathlib.Core.List.{List, [], ◌∷◌, map, map-map}
use mathlib.Core.Option.{Option, none, some}
use Prim.Native.Nat.{ℕ, zero, suc, ◌+◌, ◌-◌, ◌^◌, ◌≤◌, ◌<◌}
use native.Mathlib.Nat.{zero-add}
use native.Mathlib.Omega.{arith}
use borrow.Author.Tests.{ltb-true, leb-true, eqb-true, eq-eqb}
use lib.Dec.{eqb}
use lib.ListN.{length, get_or, replicate, length-map, get_or-eq_default}
use lib.Seq.{take-append_seam}
use Rattle.boxes.specs.Boxes.{Choice, Inside, lows, choices, size, keep, ◌∈◌}
use Rattle.boxes.proofs.Choices.{mem_choices}
use Rattle.boxes.proofs.Lists.{by_test, from_at, keep_mem, mem_keep, keep_none}
use Rattle.boxes.proofs.Places.{nonempty, mem_place, place_mem}
use Rattle.blocks.specs.Record.{exit_of}
use Rattle.blocks.proofs.Bytes.{get_d_padded}
use Rattle.listing.specs.Group.{Job}
use Rattle.listing.specs.Listing.{Path, listing}
use Rattle.listing.specs.Numbers.{kind_number}
use Rattle.listing.specs.declared.End.{End}
use Rattle.listing.specs.declared.End.TheVariants.{Exit, BadPc, BadWord, BadAddress, BadCall, StepLimit, NotFollowed, TraceFull}
use Rattle.corners.specs.Working.Good.{Sound}
use Rattle.demands.proofs.Faithful.{listing_faithful}
use Rattle.listing.specs.First.{first}
use Rattle.listing.proofs.First.{first_none_append}
use Rattle.calls.specs.Call.{Below}
use Rattle.calls.specs.Border.{refused_number, SaysRefusal}
use Rattle.calls.specs.declared.Refusal.{Refusal}
use Rattle.calls.specs.Complete.{IsPath}
use Rattle.calls.proofs.Asked.{passed}
use Rattle.calls.proofs.Numbers.{says_refusal, tells_no}
use Rattle.jobs.specs.Job.{job_questions}
use Rattle.counting.specs.Counting.{Result, result_of, is_exit, is_fixed, exits_with, other_kind, is_on, choices_on, exit_values, most_paths, kind_places, counts_by, counts_of}
use Rattle.counting.specs.Count.{job_from, size_questions, count_questions, counted_by, counted}
use Rattle.counting.specs.Working.Adding.{Part, part_of, sum_on, added_up}
use Rattle.counting.specs.Promised.{add_all, SomePath, AllExitWith, JobCounts, CountsCall}
use Rattle.counting.specs.declared.Counted.{Counted}
use Rattle.counting.proofs.Explored.{kind_below, counts_are}
use Rattle.counting.proofs.Widths.{size_widths}
use Rattle.counting.proofs.Read.{job_sound}
use Rattle.counting.proofs.Sums.{on_path, path_on, choices_sum, sum_all_lem}
use Rattle.counting.proofs.Tallies.{values_rise, rising_mem, values_few}
use Rattle.counting.proofs.Totals.{counts_add}

kind_exit : (e : End) → kind_number e ≡ kind_number Exit → e ≡ Exit
kind_exit Exit k = refl
kind_exit BadPc k = absurd (omega arith)
kind_exit BadWord k = absurd (omega arith)
kind_exit BadAddress k = absurd (omega arith)
kind_exit BadCall k = absurd (omega arith)
kind_exit StepLimit k = absurd (omega arith)
kind_exit (NotFollowed r) k = absurd (omega arith)
kind_exit TraceFull k = absurd (omega arith)

-- every other kind has a number above 2
other_kind_lem : (e : End) (k : ℕ) → not (eqb (kind_number e) (kind_number Exit)) && eqb (kind_number e) k ≡ true → 3 ≤ k
other_kind_lem Exit k t = absurd (false≢true t)
other_kind_lem BadPc k t = omega (arith, eqb-true 3 k t)
other_kind_lem BadWord k t = omega (arith, eqb-true 4 k t)
other_kind_lem BadAddress k t = omega (arith, eqb-true 5 k t)
other_kind_lem BadCall k t = omega (arith, eqb-true 6 k t)
other_kind_lem StepLimit k t = omega (arith, eqb-true 7 k t)
other_kind_lem (NotFollowed r) k t = omega (arith, eqb-true 8 k t)
other_kind_lem TraceFull k t = omega (arith, eqb-true 9 k t)

-- what a test for an exit value says
with_value : (x : ℕ) (r : Result) → exits_with x r ≡ true → (r.kind ≡ kind_number Exit) × (r.low ≡ x) × (r.high ≡ x)
unfolding exits_with is_fixed is_exit
with_value x r e =
    let (f, v) = (and-eq-true_iff _ _).0 e in
    let (k, s) = (and-eq-true_iff _ _).0 f in
    let low = eqb-true r.low x v in
    (eqb-true _ _ k, low, sym (eqb-true r.low r.high s) ∙ low)

get_d_in : (l : List ℕ) (i : ℕ) → i < length l → get_or l i 0 ∈ l
get_d_in [] i h = absurd (omega arith)
get_d_in (x ∷ l) zero h = here refl
get_d_in (x ∷ l) (suc i) h = there (get_d_in l i (omega arith))

get_d_mapped : (f : ℕ → ℕ) (l : List ℕ) (i : ℕ) → i < length l → get_or (map f l) i 0 ≡ f (get_or l i 0)
get_d_mapped f [] i h = absurd (omega arith)
get_d_mapped f (x ∷ l) zero h = refl
get_d_mapped f (x ∷ l) (suc i) h = get_d_mapped f l i (omega arith)

parts_sizes : (test : Result → Bool) (ps : List Path)
    → sum_on test (map part_of ps) ≡ add_all (map (λ (p : Path). size p.box) (keep (λ (p : Path). test (result_of p)) ps))
unfolding sum_on add_all keep
parts_sizes test [] = refl
parts_sizes test (p ∷ ps) =
    let ih = parts_sizes test ps in
    by_test (test (result_of p)) (λ t. rw t (ap (λ (n : ℕ). size p.box + n) ih)) (λ t. rw t (zero-add _ ∙ ih))

-- the counts of a sound job
module _ (j : Job) (sound : Sound j j.box) where
  abbrev results : List Result
  results = map result_of (listing j)

  abbrev xs : List ℕ
  xs = exit_values results

  abbrev low : Result → ℕ
  low r = r.low

  value_listed : (x : ℕ) → (x ∈ xs) ↔ ((n : ℕ) × (p : Path) × IsPath j n p × (exits_with x (result_of p) ≡ true))
  unfolding exit_values exits_with
  value_listed x = (
    λ m.
        let (r, k, e) = Memᴰ.of_map low (keep is_fixed results) ((rising_mem (map low (keep is_fixed results)) x).0 m) in
        let (o, t) = keep_mem is_fixed results k in
        let (p, q, z) = Memᴰ.of_map result_of (listing j) o in
        let (n, l) = mem_place q in
        (n, p, l, subst (λ (s : Result). is_fixed s && eqb s.low x ≡ true) (sym z) ((and-eq-true_iff _ _).1 (t, eq-eqb r.low x e))),
    λ h.
        let (n, p, l, t) = h in
        let (f, e) = (and-eq-true_iff (is_fixed (result_of p)) _).0 t in
        let m = Memᴰ.map low (mem_keep is_fixed (Memᴰ.map result_of (place_mem (listing j) n l)) f) in
        (rising_mem (map low (keep is_fixed results)) x).1 (subst (λ (y : ℕ). y ∈ map low (keep is_fixed results)) (eqb-true _ _ e) m),
  )

  -- a path has a choice, so what leads there has a count
  some_choice : (test : Result → Bool) (n : ℕ) (p : Path) → IsPath j n p → test (result_of p) ≡ true → 0 < choices_on j test
  unfolding choices_on
  some_choice test n p l t =
      let m = place_mem (listing j) n l in
      let f = listing_faithful j sound p m in
      let c = lows p.box in
      nonempty (keep (is_on test (listing j)) (choices j.box))
      (mem_keep (is_on test (listing j)) ((mem_choices j.box c).1 (f.inputs c f.lowest)) (path_on test c m t f.lowest))

  on_listed : (test : Result → Bool) (c : Choice) → (is_on test (listing j) c ≡ true) ↔ SomePath j (λ p. (test (result_of p) ≡ true) × Inside c p.box)
  on_listed test c = (
    λ e. let (p, m, t, i) = on_path test (listing j) c e in let (n, l) = mem_place m in (n, p, l, (t, i)),
    λ h. let (n, p, l, (t, i)) = h in path_on test c (place_mem (listing j) n l) t i,
  )

  -- the value at every choice, and at the two that reach the ends of its interval
  fixed_exit : (x n : ℕ) (p : Path) → IsPath j n p → (exits_with x (result_of p) ≡ true) ↔ AllExitWith j x p
  unfolding exits_with is_fixed is_exit
  fixed_exit x n p l =
      let f = listing_faithful j sound p (place_mem (listing j) n l) in (
        λ e.
            let (k, low_is, high_is) = with_value x (result_of p) e in
            let end_is = kind_exit p.end k in
            (end_is, λ c i. omega (arith, (f.runs c i).exit end_is, low_is, high_is)),
        λ h.
            let (end_is, all) = h in
            let ((c, i, low_at_lem), (d, o, high_at_lem)) = f.exit end_is in
            let low_is : (exit_of p).low ≡ x = sym low_at_lem ∙ all c i in
            let high_is : (exit_of p).high ≡ x = sym high_at_lem ∙ all d o in
            (and-eq-true_iff _ _).1
            ((and-eq-true_iff _ _).1 (eq-eqb _ _ (ap kind_number end_is), eq-eqb (exit_of p).low (exit_of p).high (low_is ∙ sym high_is)), eq-eqb (exit_of p).low x low_is),
      )

  sizes_add : (test : Result → Bool) → choices_on j test ≡ add_all (map (λ (p : Path). size p.box) (keep (λ (p : Path). test (result_of p)) (listing j)))
  sizes_add test = choices_sum j sound test ∙ parts_sizes test (listing j)

  few_values : length (listing j) ≤ most_paths → length xs ≤ most_paths
  few_values l = omega (arith, values_few (map part_of (listing j)), ap (λ (rs : List Result). length (exit_values rs)) (map-map (λ (p : Part). p.result) part_of (listing j)), length-map (listing j) part_of)

  choices_at : (i : ℕ) → i < length xs → get_or (counts_of j).choices i 0 ≡ choices_on j (exits_with (get_or (counts_of j).values i 0))
  unfolding counts_of counts_by
  choices_at i h =
      let f : ℕ → ℕ = λ x. choices_on j (exits_with x) in
      get_d_padded (map f xs) (most_paths - length (map f xs)) i ∙ get_d_mapped f xs i h ∙ ap f (sym (get_d_padded xs (most_paths - length xs) i))

  kinds_at : (k : ℕ) → k < kind_places → get_or (counts_of j).kinds k 0 ≡ choices_on j (other_kind k)
  unfolding counts_of counts_by
  kinds_at k h = from_at (λ (i : ℕ). choices_on j (other_kind i)) 0 kind_places 0 k h ∙ rw zero-add

  no_other : (k : ℕ) → k ≤ 2 → choices_on j (other_kind k) ≡ 0
  unfolding choices_on
  no_other k h =
      ap length
      (keep_none (is_on (other_kind k) (listing j)) (choices j.box)
      (λ c m.
      by_test (is_on (other_kind k) (listing j) c)
      (λ e. let (p, _, t, _) = on_path (other_kind k) (listing j) c e in absurd (omega (arith, other_kind_lem p.end k (unfold other_kind is_exit in t))))
      (λ e. e)))

  adds_up : add_all (counts_of j).choices + ((counts_of j).varying + add_all (counts_of j).kinds) ≡ (counts_of j).total
  adds_up =
      subst (λ (r : Counted). add_all r.choices + (r.varying + add_all r.kinds) ≡ r.total) (counts_are j sound)
      (unfold added_up counts_by in counts_add (map part_of (listing j)) (size j.box) kinds ∙ sum_all_lem j sound)
    where
      kinds : (p : Part) → p ∈ map part_of (listing j) → p.result.kind < kind_places
      kinds p m = let (q, o, z) = Memᴰ.of_map part_of (listing j) m in subst (λ (x : Part). x.result.kind < kind_places) z (kind_below q.end)

  pub counts_sum : size j.box < 2 ^ 64 → length (listing j) ≤ most_paths → JobCounts j (counts_of j)
  unfolding counts_of counts_by
  counts_sum small few = let f : ℕ → ℕ = λ x. choices_on j (exits_with x) in record {
    on = on_listed;
    fixed = fixed_exit;
    sizes = sizes_add;
    few = few_values few;
    rise = λ i h. rw (get_d_padded xs (most_paths - length xs) i, get_d_padded xs (most_paths - length xs) (suc i)) (values_rise results i h);
    values = λ x. rw (take-append_seam xs (replicate (most_paths - length xs) 0)) (value_listed x);
    choices = choices_at;
    some_choice = λ i h.
        let (n, p, l, t) = (value_listed (get_or xs i 0)).0 (get_d_in xs i h) in
        rw (choices_at i h, get_d_padded xs (most_paths - length xs) i) (some_choice (exits_with (get_or xs i 0)) n p l t);
    varying = refl;
    kinds = kinds_at;
    no_kind = λ k h. kinds_at k (omega arith) ∙ no_other k h;
    unused = λ i h. (
      get_d_padded xs (most_paths - length xs) i ∙ get_or-eq_default xs 0 {n = i} h,
      get_d_padded (map f xs) (most_paths - length (map f xs)) i ∙ get_or-eq_default (map f xs) 0 {n = i} (rw length-map h),
    );
    adds_up = adds_up;
    total = size_widths j.box;
    fits = small;
  }

-- the call
module _ (bytes : List ℕ) where
  abbrev j : Job
  j = job_from bytes

  abbrev asked : Option Refusal
  asked = first (count_questions bytes)

  -- its number is that of the first no, or 0
  number_is : (o : Option Refusal) → (counted_by j o).refused ≡ refused_number o
  unfolding counted_by counts_of counts_by
  number_is none = refl
  number_is (some r) = refl

  says : SaysRefusal (counted_by j asked).refused asked
  says = rw (number_is asked) (says_refusal asked)

  accepted_counts : Below (2 ^ 8) bytes → asked ≡ none → JobCounts j (counted_by j none)
  unfolding counted_by size_questions
  accepted_counts b n =
      let (own, rest) = first_none_append (job_questions bytes) (size_questions j) n in
      let (size_fits_lem, rest₂) = passed _ _ _ rest in
      let (paths_fit_lem, _) = passed _ _ _ rest₂ in
      let small = ltb-true (size j.box) (2 ^ 64) size_fits_lem in
      let few = leb-true (length (listing j)) most_paths paths_fit_lem in
      counts_sum j (job_sound bytes own b) small few

  pub call_counts : Below (2 ^ 8) bytes → CountsCall bytes (counted bytes)
  unfolding counted
  call_counts b = record {
    tells = tells_no (count_questions bytes) (number_is asked);
    turned_away = λ q e. rw ((says.refused q).0 e) (unfold counted_by in refl);
    size_is = size_widths j.box;
    counts = λ e. let n = says.accepted.0 e in rw n (accepted_counts b n);
  }
