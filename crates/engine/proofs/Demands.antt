-- The three demands of `explore`. Its contract names the relation `Leaves` between what is lent and what is left, and from that alone
-- they follow: demands 1 and 2 of each call, demand 3 of each list of calls on one memory and one table.
-- Assumes nothing.
use mathlib.Core.Path.{◌≡◌}
use mathlib.Core.Bool.{true}
use mathlib.Core.List.{List, map}
use Prim.Native.Nat.{ℕ}
use lib.ListN.{length}
use Rattle.boxes.specs.Boxes.{◌∈◌}
use Rattle.calls.specs.Call.{Call, Left, is_page, job_of}
use Rattle.calls.specs.Engine.{Lent, Leaves, Exchange, History}
use Rattle.calls.specs.Refuses.{Responds}
use Rattle.calls.specs.Reported.{Reported}
use Rattle.calls.specs.Together.{Together}
use Rattle.demands.proofs.Demands.{demand_1, demand_2, demand_3, demand_3_made, leaves_meets, leaves_answers}

-- a numbered refusal for its stated cause that changes nothing, or an exploration that finishes
pub explore_demand_1 : {memory table : List ℕ} {c : Call} → Lent memory table c → Responds Leaves memory table c
explore_demand_1 = demand_1 Leaves leaves_meets leaves_answers

-- each listed path agrees with the plain machine
pub explore_demand_2 : {memory table : List ℕ} {c : Call} {l : Left} → Lent memory table c → Leaves memory table c l
    → is_page l.reply.answer ≡ true → Reported (job_of memory (length table) c) c l.reply
explore_demand_2 = demand_2 Leaves leaves_meets

-- memory, table, answers and reports of a whole list of calls, and the joined pages
pub explore_demand_3 : {memory table : List ℕ} {xs : List Exchange} → ((x : Exchange) → x ∈ xs → Lent memory table x.call)
    → History Leaves memory table xs → Together memory table xs
explore_demand_3 = demand_3 Leaves leaves_meets

pub explore_demand_3_made : {memory table : List ℕ} (cs : List Call) → ((c : Call) → c ∈ cs → Lent memory table c)
    → (xs : List Exchange) × (map (λ (x : Exchange). x.call) xs ≡ cs) × History Leaves memory table xs
explore_demand_3_made = demand_3_made Leaves leaves_meets leaves_answers
