-- A call is refused exactly as the first question with the answer no has it.
-- Assumes nothing.
use mathlib.Core.Path.{◌≡◌, refl, sym, ap}
use mathlib.Core.Logic.{◌↔◌}
use mathlib.Core.Bool.{true, true≢false}
use mathlib.Core.List.{List}
use mathlib.Core.Option.{Option, none, some}
use Prim.Native.Nat.{ℕ}
use native.Mathlib.Omega.{arith}
use lib.ListN.{length}
use Rattle.std.specs.Prelude.{Err}
use Rattle.listing.proofs.First.{none_applies}
use Rattle.calls.specs.Questions.{AllYes}
use Rattle.calls.specs.Call.{Call, written, more, is_page, questions, refusal_of, reply_by, reply_to, table_by, called}
use Rattle.calls.specs.Border.{refusal_by}
use Rattle.calls.specs.Refuses.{FirstNo, Unchanged}
use Rattle.calls.specs.declared.Refusal.{Refusal}
use Rattle.calls.proofs.Asked.{first_no}

module _ (memory : List ℕ) (words : ℕ) (c : Call) where
  -- a page comes only where no question is answered no
  pub page_passes : (o : Option Refusal) → is_page (reply_by memory words c o).answer ≡ true → o ≡ none
  unfolding reply_by is_page
  page_passes none e = refl
  page_passes (some r) e = absurd (true≢false (sym e))

  pub passes_page : (o : Option Refusal) → o ≡ none → is_page (reply_by memory words c o).answer ≡ true
  unfolding reply_by is_page
  passes_page none e = refl
  passes_page (some r) e = let z : ◌≡◌ {A = ℕ} 0 1 = cc in absurd (omega arith)

  -- and a refusal only by the question that is
  pub refused_asks : (r : Refusal) (o : Option Refusal) → (reply_by memory words c o).answer ≡ Err r → o ≡ some r
  unfolding reply_by
  refused_asks r none e = let z : ◌≡◌ {A = ℕ} 0 1 = cc in absurd (omega arith)
  refused_asks r (some s) e = let z : s ≡ r = cc in ap (λ (q : Refusal). some q) z

  pub asks_refused : (r : Refusal) (o : Option Refusal) → o ≡ some r → (reply_by memory words c o).answer ≡ Err r
  unfolding reply_by
  asks_refused r o e = rw e

-- the refusal of a call's answer is that of the first no
pub reply_refusal : (memory : List ℕ) (words : ℕ) (c : Call) (o : Option Refusal) → refusal_by (reply_by memory words c o).answer ≡ o
unfolding reply_by
reply_refusal memory words c none = refl
reply_refusal memory words c (some r) = refl

module _ (memory table : List ℕ) (c : Call) where
  abbrev words : ℕ
  words = length table

  pub refused : (r : Refusal) → ((called memory table c).reply.answer ≡ Err r) ↔ FirstNo (questions memory words c) r
  unfolding called reply_to
  refused r =
      let o = refusal_of memory words c in
      let f = first_no (questions memory words c) r in (
        λ e. f.0 (refused_asks memory words c r o e),
        λ n. asks_refused memory words c r o (f.1 n),
      )

  pub accepted : (is_page (called memory table c).reply.answer ≡ true) ↔ AllYes (questions memory words c)
  unfolding called reply_to
  accepted =
      let o = refusal_of memory words c in
      let a = none_applies (questions memory words c) in (
        λ e. a.0 (page_passes memory words c o e),
        λ h. passes_page memory words c o (a.1 h),
      )

  unchanged_by : (r : Refusal) (o : Option Refusal) → (reply_by memory words c o).answer ≡ Err r
      → Unchanged memory table c (record { reply = reply_by memory words c o; table = table_by table o; memory = memory })
  unfolding reply_by table_by written more
  unchanged_by r none e = let z : ◌≡◌ {A = ℕ} 0 1 = cc in absurd (omega arith)
  unchanged_by r (some s) e = record { no_path = refl; no_further = refl; report_kept = refl; table_kept = refl; memory_kept = refl }

  pub unchanged : (r : Refusal) → (called memory table c).reply.answer ≡ Err r → Unchanged memory table c (called memory table c)
  unfolding called reply_to
  unchanged r e = unchanged_by r (refusal_of memory words c) e
