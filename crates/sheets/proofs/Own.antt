-- The sheets of our own reports: a page that a call wrote, and a complete report, are printed as the paths of the listing.
-- Assumes nothing.
use mathlib.Core.Path.{◌≡◌, sym, ap, ◌∙◌}
use mathlib.Core.Bool.{true}
use mathlib.Core.List.{List, ◌++◌}
use Prim.Native.Nat.{ℕ, ◌≤◌}
use native.Mathlib.Omega.{arith}
use lib.ListN.{length, drop}
use Rattle.boxes.specs.Boxes.{keep, ◌∈◌}
use Rattle.listing.specs.Group.{Job}
use Rattle.listing.specs.Listing.{Path}
use Rattle.blocks.specs.Record.{records}
use Rattle.calls.specs.Call.{Call, inputs_of, job_of, page}
use Rattle.calls.specs.Engine.{Engine, Lent, Meets, Exchange, History}
use Rattle.calls.specs.Together.{is_accepted, bytes_written}
use Rattle.calls.specs.Done.{done_left}
use Rattle.std.specs.Prelude.{Ok}
use Rattle.calls.proofs.Done.{left_done}
use Rattle.demands.proofs.Accepted.{paths_fit_lem}
use Rattle.demands.proofs.Demands.{history_fair}
use Rattle.demands.proofs.Histories.{Fair}
use Rattle.demands.proofs.Joined.{same_itself, fair_sound, fair_few, fair_counted, bytes_are}
use Rattle.demands.proofs.Reported.{page_few, page_fits, page_inputs}
use Rattle.reports.specs.Readable.{readable}
use Rattle.reports.specs.Placed.{OwnReport}
use Rattle.reports.proofs.Own.{report_is, own_writable, own_readable}
use Rattle.reports.proofs.Written.{Writable, written_readable}
use Rattle.sheets.specs.Sheet.{SheetCall, sheet_call_of, sheet_questions, sheet_deed}
use Rattle.sheets.specs.Printed.{PrintedAs, PagePrinted, ListingPrinted}
use Rattle.sheets.proofs.Lengths.{text_length}
use Rattle.sheets.proofs.Promises.{both_yes}
use Rattle.sheets.proofs.Told.{sheet_told}

-- of written records that question 12 lets pass
written_printed : {n first : ℕ} {ps : List Path} → Writable n first ps → readable n (records first ps) ≡ true → PrintedAs n (records first ps) first ps
written_printed {n} {first} {ps} w passes sheet room =
    left_done (sheet_questions c) (sheet_deed c) (both_yes c passes room)
    ∙ ap (λ (size : ℕ). done_left (Ok size) (sheet_deed c).after) (sym (text_length n (records first ps)))
    ∙ ap (λ (text : List ℕ). done_left (Ok (length text)) (text ++ drop (length text) sheet)) (sheet_told w)
  where
    c : SheetCall
    c = sheet_call_of n (records first ps) sheet

-- of what an engine that meets the contract of a call wrote
module _ (E : Engine) (meets : Meets E) {memory table : List ℕ} {xs : List Exchange} (lent : (x : Exchange) → x ∈ xs → Lent memory table x.call)
    (history : History E memory table xs) where
  -- the page of an accepted call
  module _ (x : Exchange) (m : x ∈ keep is_accepted xs) where
    abbrev c : Call
    c = x.call

    abbrev j : Job
    j = job_of memory (length table) c

    fair : Fair memory (length table) x
    fair = history_fair E meets lent history x m

    page_is : bytes_written x ≡ records c.first (page j c)
    page_is =
        let few = fair_few memory (length table) c fair (same_itself c) in
        bytes_are memory (length table) c (paths_fit_lem j (fair_sound memory (length table) c fair (same_itself c)) few) x fair (same_itself c)

    page_writable : Writable (inputs_of c) c.first (page j c)
    page_writable =
        let room = page_few memory (length table) c fair.memory_words fair.typed fair.passes in
        record {
          words = λ p i k l. page_fits memory (length table) c fair.memory_words fair.typed fair.passes p i k (omega arith);
          inputs = page_inputs memory (length table) c fair.memory_words fair.typed fair.passes;
        }

    records_readable : 1 ≤ inputs_of c → readable (inputs_of c) (records c.first (page j c)) ≡ true
    records_readable some_input =
        let counted = fair_counted memory (length table) c fair (same_itself c) in
        let few = fair_few memory (length table) c fair (same_itself c) in
        written_readable page_writable some_input (omega (arith, counted, few))

    -- question 12 passes it
    pub page_readable : 1 ≤ inputs_of c → readable (inputs_of c) (bytes_written x) ≡ true
    page_readable some_input = rw page_is (records_readable some_input)

    pub page_printed : PagePrinted memory (length table) x
    page_printed some_input =
        let counted = fair_counted memory (length table) c fair (same_itself c) in
        let few = fair_few memory (length table) c fair (same_itself c) in
        rw page_is (written_printed page_writable (written_readable page_writable some_input (omega (arith, counted, few))))

  -- a complete report
  pub own_printed : (c : Call) (report : List ℕ) → OwnReport c (keep is_accepted xs) report → ListingPrinted memory (length table) c report
  own_printed c report own =
      let is = report_is E meets lent history c report own in
      rw is (written_printed (own_writable E meets lent history c report own) (rw is at (own_readable E meets lent history c report own)))
