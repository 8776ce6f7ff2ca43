-- What a call leaves: its refusals, the job and the rest of the space.
-- Assumes nothing.
use mathlib.Core.Path.{◌≡◌, refl, sym, ap, ◌∙◌}
use mathlib.Core.Logic.{◌↔◌, ◌≢◌}
use mathlib.Core.Bool.{not}
use mathlib.Core.List.{List, [], ◌∷◌, ◌++◌}
use mathlib.Core.Option.{Option, none, some}
use Prim.Native.Nat.{ℕ, ◌≤◌, ◌<◌}
use native.Mathlib.Omega.{arith}
use borrow.Author.Tests.{le-leb, lt-leb}
use lib.ListN.{length, drop}
use Rattle.std.specs.Prelude.{Ok, Err}
use lib.Seq.{take-append_seam, drop-append_seam}
use Rattle.boxes.proofs.Lists.{by_test}
use Rattle.listing.specs.First.{first}
use Rattle.listing.proofs.First.{stops, goes, passes, none_applies, first_stays, first_goes}
use Rattle.calls.specs.Questions.{Question, ◌otherwise◌, space_fits}
use Rattle.calls.specs.Done.{DoneLeft, done_left}
use Rattle.calls.specs.declared.Refusal.{Refusal}
use Rattle.calls.specs.declared.Refusal.TheVariants.{Space}
use Rattle.calls.proofs.Asked.{yes_on}
use Rattle.calls.proofs.Done.{left_refused, left_done, refused_first, completes}
use Rattle.jobs.specs.Job.{JobRead}
use Rattle.writing.specs.Form.{job_form, form_length}
use Rattle.writing.specs.Write.{WriteCall, write_call_of, value_questions, write_questions, write_deed, job_written}
use Rattle.writing.specs.Working.Writing.{values_refusal}
use Rattle.writing.specs.Written.{Passes, WritesJob}
use Rattle.writing.proofs.Read.{form_length_lem}

-- a further question has no part in the other refusals
pub other_refusal : (qs : List Question) (q : Question) (r : Refusal) → r ≢ q.gives → (first (qs ++ (q ∷ [])) ≡ some r) ↔ (first qs ≡ some r)
other_refusal qs q r d = (λ e. go (first qs) refl e, first_stays qs (q ∷ []))
  where
    go : (o : Option Refusal) → first qs ≡ o → first (qs ++ (q ∷ [])) ≡ some r → first qs ≡ some r
    go (some x) f e = f ∙ sym (first_stays qs (q ∷ []) f) ∙ e
    go none f e =
        let last : first (q ∷ []) ≡ some r = sym (first_goes qs (q ∷ []) f) ∙ e in
        by_test q.applies
        (λ n. let z : q.gives ≡ r = cc (stops q [] n) in absurd (d (sym z)))
        (λ y. let z : none ≡ some r = passes ∙ goes q [] y ∙ last in let w : ◌≡◌ {A = ℕ} 0 1 = cc in absurd (omega arith))

module _ (c : WriteCall) where
  pub value_refused : {r : Refusal} → values_refusal c.values ≡ some r → job_written c ≡ done_left (Err r) c.space
  unfolding job_written
  value_refused e = left_refused (write_questions c) (write_deed c) (first_stays (value_questions c.values) _ e)

  module _ (e : values_refusal c.values ≡ none) where
    abbrev space : Question
    space = space_fits (form_length c.values) (length c.space) otherwise Space

    pub space_refused : length c.space < form_length c.values → job_written c ≡ done_left (Err Space) c.space
    unfolding job_written
    space_refused l =
        left_refused (write_questions c) (write_deed c)
        (first_goes (value_questions c.values) (space ∷ []) e ∙ sym (stops space [] (ap not (lt-leb (form_length c.values) (length c.space) l))))

    pub space_written : form_length c.values ≤ length c.space
        → job_written c ≡ done_left (Ok (form_length c.values)) (job_form c.values ++ drop (form_length c.values) c.space)
    unfolding job_written
    space_written l =
        left_done (write_questions c) (write_deed c)
        (first_goes (value_questions c.values) (space ∷ []) e ∙ sym (passes ∙ yes_on Space [] (le-leb (form_length c.values) (length c.space) l)))

  -- refused by a question on the values exactly if that is their first no
  pub refused_value : (r : Refusal) → r ≢ Space → (values_refusal c.values ≡ some r) ↔ ((job_written c).answer ≡ Err r)
  unfolding job_written
  refused_value r d = (
    λ e. ap (λ (l : DoneLeft). l.answer) (value_refused e),
    λ e. (other_refusal (value_questions c.values) _ r d).0 (refused_first (write_questions c) (write_deed c) r e),
  )

  pub writes_job : WritesJob c (job_written c)
  unfolding job_written
  writes_job =
      let done = completes (write_questions c) (write_deed c) in
      let size = form_length_lem c.values in
      record {
        completes = done;
        job = λ n e. rw (done.written n e, done.amount n e, ← size) (take-append_seam (job_form c.values) _);
        rest = λ n e. rw (done.written n e, done.amount n e, ← size) (drop-append_seam (job_form c.values) _);
      }

-- values that pass, in a space that is long enough
pub passes_written : (j : JobRead) → Passes j → (space : List ℕ) → form_length j ≤ length space
    → job_written (write_call_of j space) ≡ done_left (Ok (form_length j)) (job_form j ++ drop (form_length j) space)
passes_written j passed space l = space_written (write_call_of j space) ((none_applies (value_questions j)).1 passed) l
