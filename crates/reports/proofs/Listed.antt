-- The first listed wins: a row's placing is the number of the first record that holds it, and MAX if none does.
-- Assumes nothing.
use mathlib.Core.Path.{◌≡◌, ap, ◌∙◌}
use mathlib.Core.Logic.{◌⊎◌, inl, inr, ⊎_elim}
use mathlib.Core.Bool.{Bool, false}
use mathlib.Core.List.{List, map}
use Prim.Native.Nat.{ℕ, zero, suc, ◌+◌, ◌-◌, ◌<◌, ◌≤◌}
use native.Mathlib.Nat.{sub-zero}
use native.Mathlib.Omega.{arith}
use native.Mathlib.Decide.{dec_lt}
use Rattle.boxes.specs.Boxes.{from}
use Rattle.boxes.proofs.Lists.{by_test}
use Rattle.blocks.specs.Report.{records_in}
use Rattle.blocks.specs.Said.{said_at}
use Rattle.reports.specs.Readable.{all_said}
use Rattle.reports.specs.Placing.{is_inside, no_path, placing}
use Rattle.reports.specs.Placed.{HeldByNone, FirstHolds, number_at, RowPlaced}
use Rattle.reports.proofs.Records.{placing_stop, placing_go, placing_end}

module _ (n : ℕ) (report row : List ℕ) where
  abbrev count : ℕ
  count = records_in n report

  abbrev held : ℕ → Bool
  held k = is_inside row (said_at n report k).box

  -- the placing in the records from k on
  abbrev rest : ℕ → ℕ
  rest k = placing (map (said_at n report) (from k (count - k))) row

  -- the records before k do not hold the row
  past : (k : ℕ) → k ≤ count → ((i : ℕ) → i < k → held i ≡ false) → placing (all_said n report) row ≡ rest k
  past zero l h = rw sub-zero
  past (suc k) l h =
      let e : k + 1 ≡ suc k = omega arith in
      past k (omega arith) (λ i m. h i (omega arith))
      ∙ placing_go (said_at n report) row k count (omega arith) (h k (omega arith))
      ∙ ap rest e

  pub placing_first : (i : ℕ) → FirstHolds n report row i → placing (all_said n report) row ≡ number_at n report i
  placing_first i f =
      let l = f.inside in
      past i (omega arith) f.not_before ∙ placing_stop (said_at n report) row i count l f.held

  pub placing_none : HeldByNone n report row → placing (all_said n report) row ≡ no_path
  placing_none h = past count (omega arith) h ∙ placing_end (said_at n report) row count count (omega arith)

  -- one of the first k records, or none of them
  search_first : (k : ℕ) → k ≤ count → ((i : ℕ) × FirstHolds n report row i) ⊎ ((i : ℕ) → i < k → held i ≡ false)
  search_first zero l = inr (λ i m. absurd (omega arith))
  search_first (suc k) l =
      ⊎_elim inl
      (λ none_before.
      by_test (held k)
      (λ y. inl (k, record { inside = omega arith; held = y; not_before = none_before }))
      (λ holds_not. inr (λ i m.
      elim (dec_lt i k) [
        | yes b ↦ none_before i b
        | no b ↦ (let e : i ≡ k = omega arith in ap held e ∙ holds_not)
      ])))
      (search_first k (omega arith))

  pub first_or_none : ((i : ℕ) × FirstHolds n report row i) ⊎ HeldByNone n report row
  first_or_none = search_first count (omega arith)

  pub row_placed : RowPlaced n report row (placing (all_said n report) row)
  row_placed =
      record {
        first_wins = placing_first;
        in_none = placing_none;
        either = first_or_none;
        only_none = λ below e.
            ⊎_elim (λ f. absurd (omega (arith, below f.0 f.1.inside, placing_first f.0 f.1))) (λ h. h) first_or_none;
      }
