-- A job explored from path 0 with a report of 64 paths: whether there are more, and what the records add up to.
-- Assumes nothing.
use mathlib.Core.Path.{◌≡◌, sym, ap, ◌∙◌, subst}
use mathlib.Core.Bool.{Bool, true, false, false≢true}
use mathlib.Core.List.{List, map, map-map}
use mathlib.Core.Option.{none}
use Prim.Native.Nat.{ℕ, ◌+◌, ◌^◌, ◌≤◌, ◌<◌, min}
use native.Mathlib.Nat.{zero-add}
use native.Mathlib.Omega.{arith}
use borrow.Author.Tests.{ltb-true, ltb-false, lt-leb, le-leb}
use lib.Dec.{ltb}
use Rattle.std.specs.Prelude.{Ok, Err}
use lib.ListN.{length}
use Rattle.boxes.specs.Boxes.{size}
use Rattle.boxes.proofs.Places.{place_mem, place_below, place_exists}
use Rattle.listing.specs.Group.{Job}
use Rattle.listing.specs.Listing.{Path, listing}
use Rattle.listing.specs.Numbers.{kind_number}
use Rattle.listing.specs.declared.End.{End}
use Rattle.listing.specs.declared.End.TheVariants.{Exit, BadPc, BadWord, BadAddress, BadCall, StepLimit, NotFollowed, TraceFull}
use Rattle.blocks.specs.Reading.{Tells}
use Rattle.blocks.specs.Record.{most_inputs}
use Rattle.blocks.specs.Report.{records_in, record_at}
use Rattle.blocks.specs.Said.{Said, said_at, said_of}
use Rattle.blocks.proofs.Said.{said_told}
use Rattle.calls.specs.Call.{Call, inputs_of, Below, Typed, written, more, is_page, refusal_of, job_of, Reply, reply_by, reply_to}
use Rattle.calls.specs.Complete.{IsPath}
use Rattle.calls.specs.Reported.{Reported}
use Rattle.calls.specs.declared.Page.{Page}
use Rattle.calls.specs.declared.Refusal.{Refusal}
use Rattle.corners.specs.Working.Good.{Sound}
use Rattle.demands.proofs.Accepted.{accepted_sound, job_inputs, inputs_counted, path_inputs}
use Rattle.demands.proofs.Reported.{reported}
use Rattle.serving.specs.Served.{table_words, reply}
use Rattle.counting.specs.Counting.{Result, result_of, most_paths, kind_places, counts_by, counts_of}
use Rattle.counting.specs.Count.{paths_fit}
use Rattle.counting.specs.Working.Adding.{part_in, part_of, parts_in, Part, sum_on, added_up, Adds}
use Rattle.counting.proofs.Parts.{map_places}
use Rattle.counting.proofs.Sums.{choices_sum, sum_all_lem, path_proper}

-- every kind has a place
pub kind_below : (e : End) → kind_number e < kind_places
kind_below Exit = omega arith
kind_below BadPc = omega arith
kind_below BadWord = omega arith
kind_below BadAddress = omega arith
kind_below BadCall = omega arith
kind_below StepLimit = omega arith
kind_below (NotFollowed r) = omega arith
kind_below TraceFull = omega arith

-- what the paths add up to is what is counted choice by choice
pub counts_are : (j : Job) → Sound j j.box → added_up (map part_of (listing j)) (size j.box) ≡ counts_of j
unfolding added_up counts_of
counts_are j sound =
    ap (λ (rs : List Result). counts_by (λ (test : Result → Bool). sum_on test (map part_of (listing j))) rs (size j.box)) (map-map (λ (p : Part). p.result) part_of (listing j))
    ∙ sym (λ q. counts_by (λ (test : Result → Bool). choices_sum j sound test q) (map result_of (listing j)) (size j.box))

module _ (memory : List ℕ) (c : Call) (bounded : Below (2 ^ 64) memory) (typed : Typed c) (d : refusal_of memory table_words c ≡ none) (start : c.first ≡ 0)
    (room : records_in (inputs_of c) c.report ≡ most_paths) where
  abbrev j : Job
  j = job_of memory table_words c

  abbrev n : ℕ
  n = inputs_of c

  pub sound : Sound j j.box
  sound = accepted_sound memory table_words c d bounded typed.intervals

  from_zero : (k : ℕ) → c.first + k ≡ k
  from_zero k = omega (arith, start)

  pub not_refused : {r : Refusal} {bytes : List ℕ} → reply (Err r) bytes ≡ reply_to memory table_words c → ⊥
  unfolding reply_to reply_by is_page
  not_refused e = false≢true (ap (λ (y : Reply). is_page y.answer) (rw d at e))

  module _ {answer : Page} {bytes : List ℕ} (e : reply (Ok answer) bytes ≡ reply_to memory table_words c) where
    page : Reported j c (reply (Ok answer) bytes)
    page = rw e (reported memory table_words c bounded typed d)

    count_is : answer.count ≡ min most_paths (length (listing j))
    unfolding written
    count_is = omega (arith, page.count, room, start)

    further_is : answer.more ≡ ltb answer.count (length (listing j))
    unfolding written more
    further_is = page.further ∙ ap (λ (k : ℕ). ltb k (length (listing j))) (from_zero answer.count)

    pub too_many : answer.more ≡ true → paths_fit j ≡ false
    too_many f =
        let l = ltb-true answer.count (length (listing j)) (sym further_is ∙ f) in
        lt-leb (length (listing j)) most_paths (omega (arith, count_is))

    module _ (f : answer.more ≡ false) where
      all : answer.count ≡ length (listing j)
      all = let l = ltb-false answer.count (length (listing j)) (sym further_is ∙ f) in omega (arith, count_is)

      pub few_enough : paths_fit j ≡ true
      few_enough = le-leb (length (listing j)) most_paths (omega (arith, all, count_is))

      -- a record tells the path of its place
      module _ (i : ℕ) (p : Path) (z : IsPath j i p) where
        inputs_are : length p.box ≡ n
        inputs_are = path_inputs j sound p (place_mem (listing j) i z) ∙ inputs_counted memory table_words c d

        few_inputs : length p.box ≤ most_inputs
        few_inputs = omega (arith, inputs_are, job_inputs memory table_words c d, inputs_counted memory table_words c d)

        tells : Tells (record_at n bytes i) i p
        unfolding written
        tells =
            let t = page.records i (omega (arith, all, place_below (listing j) i z)) in
            let l = subst (λ (k : ℕ). IsPath j k t.path) (from_zero i) t.listed in
            let same : t.path ≡ p = cc in
            subst (λ (q : Path). Tells (record_at n bytes i) i q) same (subst (λ (k : ℕ). Tells (record_at n bytes i) k t.path) (from_zero i) t.tells)

        said : said_at n bytes i ≡ said_of i p
        said = rw inputs_are at (said_told tells few_inputs)

        part_is : part_in (said_at n bytes i) ≡ part_of p
        part_is = ap part_in said

        box_is : (said_at n bytes i).box ≡ p.box
        box_is = ap (λ (s : Said). s.box) said

      pub parts_are : parts_in n bytes answer.count ≡ map part_of (listing j)
      unfolding parts_in
      parts_are = rw all (map_places (λ (k : ℕ). part_in (said_at n bytes k)) part_of (listing j) 0 (λ i p z. rw zero-add (part_is i p z)))

      pub adds : size j.box < 2 ^ 64 → Adds bytes n answer.count (size j.box)
      adds fits = record {
        inputs = omega (arith, job_inputs memory table_words c d, inputs_counted memory table_words c d);
        records = omega (arith, page.size, room, count_is);
        few = omega (arith, count_is);
        proper = λ k h.
            let (p, z) = place_exists (listing j) k (omega (arith, all)) in
            rw (box_is k p z) (path_proper j sound p (place_mem (listing j) k z));
        kinds = λ k h.
            let (p, z) = place_exists (listing j) k (omega (arith, all)) in
            rw (ap (λ (q : Part). q.result.kind) (part_is k p z)) (kind_below p.end);
        sum = rw parts_are (sum_all_lem j sound);
        fits = fits;
      }
