-- `serving::respond` meets its contract: the text of what the served call leaves.
-- Assumes nothing.
use mathlib.Core.Path.{refl, sym, ap}
use native.Mathlib.Omega.{arith}
use Rattle.jobs.proofs.Asked.{yes_sized}
use Rattle.serving.specs.Response.{response_by}
use Rattle.calls.specs.Call.{Reply, is_page}
use Rattle.serving.proofs.JobPassed.{listed_passes, listed_fits}
use Rattle.serving.proofs.respond.Goals as goal

pub input_count-inputs-requires : goal.input_count-inputs-requires
unfolding is_page
input_count-inputs-requires c =
    (yes_sized _ (listed_passes _ _ (ap (λ (y : Reply). is_page y.answer) (sym c.in-Ok.ensures)))).whole

pub print_listing-requires : goal.print_listing-requires
unfolding is_page
print_listing-requires c =
    let e = c.in-Ok.ensures in
    let few = (yes_sized _ (listed_passes _ _ (ap (λ (y : Reply). is_page y.answer) (sym e)))).inputs in
    (omega (arith, listed_fits _ _ _ e, c.serve.auto.report), rw c.input_count-inputs.ensures few)

pub returns-in-Err : goal.returns-in-Err
unfolding response_by
returns-in-Err c = rw (← c.in-Err.ensures, ← c.from.ensures) (let e = c.print_refusal.ensures in record { text = e.0; size = e.1; bytes = refl })

pub returns-in-Ok : goal.returns-in-Ok
unfolding response_by
returns-in-Ok c = rw (← c.in-Ok.ensures, ← c.input_count-inputs.ensures) (let e = c.print_listing.ensures in record { text = e.0; size = e.1; bytes = refl })
