-- The first no of some questions: what one more question does to it, and where it stands. Two more numbers of the intervals in order.
-- Assumes nothing.
use mathlib.Core.Path.{◌≡◌, refl, sym, ap, ◌∙◌}
use mathlib.Core.Logic.{◌↔◌, ⊎_elim}
use mathlib.Core.Bool.{Bool, true, false, not}
use mathlib.Core.List.Memᴰ
use mathlib.Core.List.Memᴰ.{head as here}
use mathlib.Core.List.Memᴰ.{tail as there}
use mathlib.Core.List.{List, [], ◌∷◌, ◌++◌}
use mathlib.Core.Option.{none, some}
use Prim.Native.Nat.{ℕ}
use native.Mathlib.Omega.{arith}
use borrow.Author.Tests.{not-false}
use lib.ListN.{length}
use Rattle.boxes.proofs.Lists.{by_test}
use Rattle.listing.specs.First.{first}
use Rattle.listing.proofs.First.{stops, goes, passes, first_none}
use Rattle.blocks.specs.Record.{record_bytes}
use Rattle.calls.specs.Questions.{Question, ◌otherwise◌, AllYes, code_fits, intervals_fit, in_order, limit_fits, table_fits, memory_fits, report_fits, first_fits}
use Rattle.calls.specs.Call.{Call, inputs_of, box_of, questions, refusal_of}
use Rattle.calls.specs.Refuses.{FirstNo}
use Rattle.calls.specs.declared.Refusal.{Refusal}

-- a test that holds
pub yes_on : (r : Refusal) (qs : List Question) {u : Bool} → u ≡ true → first qs ≡ first ((u otherwise r) ∷ qs)
yes_on r qs {u = u} e = goes (u otherwise r) qs (ap not e)

-- no first no: each question was answered yes
pub passed : (u : Bool) (r : Refusal) (qs : List Question) → first ((u otherwise r) ∷ qs) ≡ none → (u ≡ true) × (first qs ≡ none)
passed u r qs e = let (y, f) = first_none (u otherwise r) qs e in (not-false u y, f)

-- so with a call that is accepted
pub record CallPassed (m : List ℕ) (words : ℕ) (c : Call) : Type 0 where
  pub code : code_fits (length c.code) ≡ true
  pub intervals : intervals_fit (length c.intervals) ≡ true
  pub order : in_order (box_of c.intervals) ≡ true
  pub limit : limit_fits c.limit ≡ true
  pub table : table_fits words ≡ true
  pub memory : memory_fits (length m) ≡ true
  pub report : report_fits (record_bytes (inputs_of c)) (length c.report) ≡ true
  pub first : first_fits c.first ≡ true

pub call_passed : (memory : List ℕ) (words : ℕ) (c : Call) → refusal_of memory words c ≡ none → CallPassed memory words c
unfolding questions
call_passed memory words c e =
    let (q1, e1) = passed _ _ _ e in
    let (q2, e2) = passed _ _ _ e1 in
    let (q3, e3) = passed _ _ _ e2 in
    let (q4, e4) = passed _ _ _ e3 in
    let (q5, e5) = passed _ _ _ e4 in
    let (q6, e6) = passed _ _ _ e5 in
    let (q7, e7) = passed _ _ _ e6 in
    let (q8, _) = passed _ _ _ e7 in
    record { code = q1; intervals = q2; order = q3; limit = q4; table = q5; memory = q6; report = q7; first = q8 }

no_first : {r : Refusal} → none ≡ some r → ⊥
no_first e = let z : ◌≡◌ {A = ℕ} 0 1 = cc in absurd (omega arith)

-- the first no gives a refusal exactly if it stands so
pub first_no : (qs : List Question) (r : Refusal) → (first qs ≡ some r) ↔ FirstNo qs r
first_no qs r = (placed qs, λ f. rw f.place (stopped f.before f.question f.after f.yes_before f.no_here f.refusal))
  where
    placed : (qs : List Question) → first qs ≡ some r → FirstNo qs r
    placed [] e = absurd (no_first (passes ∙ e))
    placed (q ∷ qs) e =
        by_test q.applies
        (λ n.
        let z : q.gives ≡ r = cc (stops q qs n) in
        record {
          before = [];
          question = q;
          after = qs;
          place = refl;
          yes_before = λ p m. absurd (Memᴰ.not-nil m);
          no_here = n;
          refusal = z;
        })
        (λ y.
        let f = placed qs (goes q qs y ∙ e) in
        record {
          before = q ∷ f.before;
          question = f.question;
          after = f.after;
          place = ap (λ (l : List Question). q ∷ l) f.place;
          yes_before = λ p m. ⊎_elim (λ z. rw z y) (λ n. f.yes_before p n) (Memᴰ.cases_cons m);
          no_here = f.no_here;
          refusal = f.refusal;
        })

    stopped : (before : List Question) (q : Question) (after : List Question) → AllYes before → q.applies ≡ true → q.gives ≡ r
        → first (before ++ q ∷ after) ≡ some r
    stopped [] q after h n e = sym (stops q after n) ∙ ap (λ (x : Refusal). some x) e
    stopped (p ∷ before) q after h n e =
        sym (goes p (before ++ q ∷ after) (h p (here refl))) ∙ stopped before q after (λ x m. h x (there m)) n e
