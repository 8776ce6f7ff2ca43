-- Rows in the complete reports that the functions for C wrote: `mirokefa_place` finds the path of each.
-- Assumes nothing.
use mathlib.Core.Path.{sym, subst}
use mathlib.Core.List.{List}
use Prim.Native.Nat.{ℕ}
use lib.ListN.{length}
use Rattle.boxes.specs.Boxes.{keep, ◌∈◌}
use Rattle.calls.specs.Call.{Call}
use Rattle.calls.specs.Engine.{Lent, Leaves, Exchange, History}
use Rattle.calls.specs.Together.{is_accepted}
use Rattle.demands.proofs.Demands.{leaves_meets}
use Rattle.reports.specs.Placed.{OwnReport, OwnPlaced}
use Rattle.reports.proofs.Own.{own_placed}
use Rattle.serving.specs.Served.{table_words}
use Rattle.serving.specs.Server.{ServedCall, Made, exchanges_of}
use Rattle.serving.proofs.Demands.{Brings, zeros_length, history, all_accepted, all_lent}

-- calls of `mirokefa_explore` on one memory and one table
pub explore_placed : {memory table : List ℕ} {xs : List Exchange} → ((x : Exchange) → x ∈ xs → Lent memory table x.call)
    → History Leaves memory table xs → (c : Call) (report : List ℕ) → OwnReport c (keep is_accepted xs) report → OwnPlaced memory (length table) c report
explore_placed = own_placed Leaves leaves_meets

-- calls of `mirokefa_serve` whose listed jobs bring one memory
pub serve_placed : (memory : List ℕ) (ys : List ServedCall) → ((y : ServedCall) → y ∈ ys → Made y) → Brings memory ys
    → (c : Call) (report : List ℕ) → OwnReport c (exchanges_of ys) report → OwnPlaced memory table_words c report
serve_placed memory ys h b c report own =
    subst (λ (words : ℕ). OwnPlaced memory words c report) zeros_length
    (explore_placed (all_lent memory ys h b) (history memory ys h b) c report
    (subst (λ (xs : List Exchange). OwnReport c xs report) (sym (all_accepted memory ys h b)) own))
