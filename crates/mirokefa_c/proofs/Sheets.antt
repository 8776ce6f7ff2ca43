-- The sheets of the reports that the functions for C wrote: `mirokefa_sheet` prints the paths of the listing.
-- Assumes nothing.
use mathlib.Core.Path.{sym, subst}
use mathlib.Core.List.{List}
use Prim.Native.Nat.{ℕ}
use lib.ListN.{length}
use Rattle.boxes.specs.Boxes.{keep, ◌∈◌}
use Rattle.calls.specs.Call.{Call}
use Rattle.calls.specs.Engine.{Lent, Leaves, Exchange, History}
use Rattle.calls.specs.Together.{is_accepted}
use Rattle.demands.proofs.Demands.{leaves_meets}
use Rattle.reports.specs.Placed.{OwnReport}
use Rattle.sheets.specs.Printed.{PagePrinted, ListingPrinted}
use Rattle.sheets.proofs.Own.{page_printed, own_printed}
use Rattle.serving.specs.Served.{table_words}
use Rattle.serving.specs.Server.{ServedCall, Made, exchanges_of}
use Rattle.serving.proofs.Demands.{Brings, zeros_length, history, all_accepted, all_lent}

-- calls of `mirokefa_explore` on one memory and one table
module _ {memory table : List ℕ} {xs : List Exchange} (lent : (x : Exchange) → x ∈ xs → Lent memory table x.call) (made : History Leaves memory table xs) where
  pub explore_page_printed : (x : Exchange) → x ∈ keep is_accepted xs → PagePrinted memory (length table) x
  explore_page_printed = page_printed Leaves leaves_meets lent made

  pub explore_printed : (c : Call) (report : List ℕ) → OwnReport c (keep is_accepted xs) report → ListingPrinted memory (length table) c report
  explore_printed = own_printed Leaves leaves_meets lent made

-- calls of `mirokefa_serve` whose listed jobs bring one memory
module _ (memory : List ℕ) (ys : List ServedCall) (h : (y : ServedCall) → y ∈ ys → Made y) (b : Brings memory ys) where
  pub serve_page_printed : (x : Exchange) → x ∈ exchanges_of ys → PagePrinted memory table_words x
  serve_page_printed x m =
      subst (λ (words : ℕ). PagePrinted memory words x) zeros_length
      (explore_page_printed (all_lent memory ys h b) (history memory ys h b) x
      (subst (λ (xs : List Exchange). x ∈ xs) (sym (all_accepted memory ys h b)) m))

  pub serve_printed : (c : Call) (report : List ℕ) → OwnReport c (exchanges_of ys) report → ListingPrinted memory table_words c report
  serve_printed c report own =
      subst (λ (words : ℕ). ListingPrinted memory words c report) zeros_length
      (explore_printed (all_lent memory ys h b) (history memory ys h b) c report
      (subst (λ (xs : List Exchange). OwnReport c xs report) (sym (all_accepted memory ys h b)) own))
