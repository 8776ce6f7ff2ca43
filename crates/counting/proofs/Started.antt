-- A job that was read, explored from path 0: each of the answers that the code can give is the one for the job.
-- Assumes nothing.
use mathlib.Core.Path.{◌≡◌, refl, sym, ap, ◌∙◌}
use mathlib.Core.Bool.{true, false}
use mathlib.Core.List.{List, map}
use Prim.Native.Nat.{ℕ, ◌*◌, ◌^◌}
use native.Mathlib.Omega.{arith}
use borrow.Author.Tests.{ltb-true}
use lib.Dec.{ltb}
use Rattle.std.specs.Prelude.{Option, Some, None, Ok, Err}
use lib.ListN.{take, length-take, length-replicate}
use Rattle.boxes.specs.Boxes.{size}
use Rattle.boxes.specs.Working.Cuts.{Proper}
use Rattle.boxes.proofs.Lists.{by_test}
use Rattle.blocks.specs.Record.{record_bytes}
use Rattle.blocks.specs.Report.{records_in}
use Rattle.calls.specs.Call.{Call, inputs_of, box_of, job_of, reply_to}
use Rattle.calls.specs.declared.Page.{Page}
use Rattle.calls.specs.declared.Refusal.{Refusal}
use Rattle.corners.specs.Working.Good.{Sound}
use Rattle.jobs.specs.declared.Counts.{Counts}
use Rattle.listing.specs.Group.{Job}
use Rattle.listing.specs.First.{first}
use Rattle.listing.specs.Listing.{listing}
use Rattle.serving.specs.Served.{table_words, reply}
use Rattle.counting.specs.Counting.{most_paths}
use Rattle.counting.specs.Count.{size_questions, count_refused, counted_by}
use Rattle.counting.specs.Working.Adding.{sized, Part, part_of, parts_in, added_up, Adds, started_call, Startable, started_job, counted_job}
use Rattle.calls.specs.declared.Refusal.TheVariants.{Size, Paths}
use Rattle.counting.proofs.Explored as explored

sized_fits : (s : ℕ) {t : ℕ} → sized s ≡ Some t → (s ≡ t) × (ltb s (2 ^ 64) ≡ true)
sized_fits s {t} e =
    by_test (ltb s (2 ^ 64))
    (λ b. let d : ◌≡◌ {A = Option ℕ} (Some s) (Some t) = rw b at e in (cc, b))
    (λ b. let d : ◌≡◌ {A = Option ℕ} None (Some t) = rw b at e in let z : ◌≡◌ {A = ℕ} 0 1 = cc in absurd (omega arith))

sized_over : (s : ℕ) → sized s ≡ None → ltb s (2 ^ 64) ≡ false
sized_over s e =
    by_test (ltb s (2 ^ 64))
    (λ b. let d : ◌≡◌ {A = Option ℕ} (Some s) None = rw b at e in let z : ◌≡◌ {A = ℕ} 0 1 = cc in absurd (omega arith))
    (λ b. b)

module _ {code intervals memory : List ℕ} {k : Counts} (p : Startable code intervals memory k) where
  abbrev j : Job
  j = started_job code intervals memory k

  abbrev call : Call
  call = started_call code intervals k

  inputs_are : inputs_of call ≡ k.inputs
  inputs_are = omega (arith, length-take (2 * k.inputs) intervals, p.interval_words)

  room : records_in (inputs_of call) call.report ≡ most_paths
  room = omega (arith, length-replicate {A = ℕ} (most_paths * record_bytes k.inputs) 0)

  sound : Sound j j.box
  unfolding job_of
  sound = explored.sound memory call p.memory_below p.typed p.accepted refl room

  pub start_proper : Proper (box_of (take (2 * k.inputs) intervals))
  unfolding job_of
  start_proper = sound.proper

  abbrev start_size : ℕ
  start_size = size (box_of (take (2 * k.inputs) intervals))

  pub start_over : sized start_size ≡ None → count_refused Size ≡ counted_job j
  unfolding job_of size_questions first counted_by
  start_over e = rw (sized_over start_size e)

  pub start_refused : {r : Refusal} {bytes : List ℕ} → reply (Err r) bytes ≡ reply_to memory table_words call → ⊥
  start_refused e = explored.not_refused memory call p.memory_below p.typed p.accepted refl room e

  module _ {total : ℕ} (fits : sized start_size ≡ Some total) {answer : Page} {bytes : List ℕ}
      (e : reply (Ok answer) bytes ≡ reply_to memory table_words call) where
    pub start_many : answer.more ≡ true → count_refused Paths ≡ counted_job j
    unfolding job_of size_questions first counted_by
    start_many m = rw ((sized_fits start_size fits).1, explored.too_many memory call p.memory_below p.typed p.accepted refl room e m)

    module _ (f : answer.more ≡ false) where
      pub start_adds : Adds bytes k.inputs answer.count total
      unfolding job_of
      start_adds =
          let (s, b) = sized_fits start_size fits in
          rw (← inputs_are, ← s) (explored.adds memory call p.memory_below p.typed p.accepted refl room e f (ltb-true start_size (2 ^ 64) b))

      pub start_counted : added_up (parts_in k.inputs bytes answer.count) total ≡ counted_job j
      unfolding job_of size_questions first counted_by
      start_counted =
          let (s, b) = sized_fits start_size fits in
          ap (λ (n : ℕ). added_up (parts_in n bytes answer.count) total) (sym inputs_are)
          ∙ ap (λ (ps : List Part). added_up ps total) (explored.parts_are memory call p.memory_below p.typed p.accepted refl room e f)
          ∙ ap (λ (t : ℕ). added_up (map part_of (listing j)) t) (sym s)
          ∙ explored.counts_are j sound
          ∙ rw (b, explored.few_enough memory call p.memory_below p.typed p.accepted refl room e f)
