-- What a call leaves that is done or refused.
-- Assumes nothing.
use mathlib.Core.Path.{◌≡◌, refl, ap}
use mathlib.Core.List.{List}
use mathlib.Core.Option.{Option, none, some}
use Prim.Native.Nat.{ℕ}
use Rattle.std.specs.Prelude.{Ok, Err}
use native.Mathlib.Omega.{arith}
use Rattle.listing.specs.First.{first}
use Rattle.listing.proofs.First.{none_applies}
use Rattle.calls.specs.Questions.{Question}
use Rattle.calls.specs.Done.{DoneLeft, done_left, Deed, done_by, done_to, refusal_from, Completes}
use Rattle.calls.specs.declared.Refusal.{Refusal}
use Rattle.calls.proofs.Asked.{first_no}

module _ (qs : List Question) (d : Deed) where
  pub left_refused : {r : Refusal} → first qs ≡ some r → done_to qs d ≡ done_left (Err r) d.lent
  unfolding done_by
  left_refused e = rw e

  pub left_done : first qs ≡ none → done_to qs d ≡ done_left (Ok d.amount) d.after
  unfolding done_by
  left_done e = rw e

  -- what leads back from an answer

  refused_by : (r : Refusal) (o : Option Refusal) → (done_by d o).answer ≡ Err r → o ≡ some r
  unfolding done_by
  refused_by r none e = let z : ◌≡◌ {A = ℕ} 0 1 = cc in absurd (omega arith)
  refused_by r (some q) e = let z : q ≡ r = cc in ap (λ (x : Refusal). some x) z

  done_by_lem : {n : ℕ} (o : Option Refusal) → (done_by d o).answer ≡ Ok n → (o ≡ none) × (n ≡ d.amount)
  unfolding done_by
  done_by_lem none e = (refl, cc)
  done_by_lem (some q) e = let z : ◌≡◌ {A = ℕ} 0 1 = cc in absurd (omega arith)

  pub refused_first : (r : Refusal) → (done_to qs d).answer ≡ Err r → first qs ≡ some r
  refused_first r e = refused_by r (first qs) e

  pub done_none : {n : ℕ} → (done_to qs d).answer ≡ Ok n → first qs ≡ none
  done_none e = (done_by_lem (first qs) e).0

  -- the refusal of its answer is that of the first no
  pub done_refusal : refusal_from (done_to qs d).answer ≡ first qs
  unfolding done_by
  done_refusal = go (first qs)
    where
      go : (o : Option Refusal) → refusal_from (done_by d o).answer ≡ o
      go none = refl
      go (some r) = refl

  answer_is : {k l : DoneLeft} → k ≡ l → k.answer ≡ l.answer
  answer_is e = ap (λ (l : DoneLeft). l.answer) e

  list_is : {k l : DoneLeft} → k ≡ l → k.list ≡ l.list
  list_is e = ap (λ (l : DoneLeft). l.list) e

  pub completes : Completes qs d (done_to qs d)
  completes =
      record {
        refused = λ r. (
          λ e. (first_no qs r).0 (refused_first r e),
          λ f. answer_is (left_refused ((first_no qs r).1 f)),
        );
        accepted = (
          λ e. (none_applies qs).0 (done_none e),
          λ h. answer_is (left_done ((none_applies qs).1 h)),
        );
        amount = λ n e. (done_by_lem (first qs) e).1;
        kept = λ r e. list_is (left_refused (refused_first r e));
        written = λ n e. list_is (left_done (done_none e));
      }
