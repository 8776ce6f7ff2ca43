-- `counting::counting::count_read` meets its contract: the questions 15 and 16, and then the sums of the report.
-- Assumes nothing.
use mathlib.Core.Path.{◌≡◌, refl, sym, ◌∙◌}
use Prim.Native.Nat.{ℕ}
use native.Mathlib.Omega.{arith}
use borrow.Author.Tests.{not-false, not-true}
use Rattle.std.specs.Prelude.{Option, Some, None, Result, Ok, Err, ok_or}
use Rattle.std.proofs.lemmas.Result.{err_from_is_err_and}
use Rattle.calls.specs.declared.Refusal.{Refusal}
use Rattle.counting.proofs.Started.{start_proper, start_over, start_refused, start_many, start_adds, start_counted}
use Rattle.counting.proofs.counting.count_read.Goals as goal

there : (o : Option ℕ) {t : ℕ} (r : Refusal) → ◌≡◌ {A = Result ℕ Refusal} (Ok t) (ok_or o r) → o ≡ Some t
there (Some s) r e = cc
there None r e = let z : ◌≡◌ {A = ℕ} 0 1 = cc in absurd (omega arith)

missing : (o : Option ℕ) {q r : Refusal} → ◌≡◌ {A = Result ℕ Refusal} (Err q) (ok_or o r) → (o ≡ None) × (q ≡ r)
missing (Some s) e = let z : ◌≡◌ {A = ℕ} 0 1 = cc in absurd (omega arith)
missing None e = (refl, cc)

pub box_size-requires : goal.box_size-requires
box_size-requires c = start_proper c.requires

pub returns-in_err-total : goal.returns-in_err-total
returns-in_err-total c =
    let (r, refused, same) = err_from_is_err_and c.from_residual.result c.from_residual.ensures.1 in
    let (none, size) = missing c.box_size.result c.in_err-total.ensures.value in
    rw (refused, same, size) (start_over c.requires (sym c.box_size.ensures ∙ none))

pub returns-in_err-page : goal.returns-in_err-page
returns-in_err-page c = absurd (start_refused c.requires c.in_err-page.ensures)

pub returns-in_err-require : goal.returns-in_err-require
returns-in_err-require c =
    let (r, refused, same) = err_from_is_err_and c.from_residual-in_err-require.result c.from_residual-in_err-require.ensures.1 in
    let (more, paths) = c.in_err-require.ensures.no in
    let fits = sym c.box_size.ensures ∙ there c.box_size.result _ c.in_ok-total.ensures.value in
    rw (refused, same, paths) (start_many c.requires fits c.in_ok-page.ensures (not-false _ more))

pub add_up-requires : goal.add_up-requires
add_up-requires c =
    let fits = sym c.box_size.ensures ∙ there c.box_size.result _ c.in_ok-total.ensures.value in
    start_adds c.requires fits c.in_ok-page.ensures (not-true _ c.in_ok-require.ensures.yes)

pub returns : goal.returns
returns c =
    let fits = sym c.box_size.ensures ∙ there c.box_size.result _ c.in_ok-total.ensures.value in
    c.add_up.ensures ∙ start_counted c.requires fits c.in_ok-page.ensures (not-true _ c.in_ok-require.ensures.yes)
