-- The demands, of every engine that meets the contract of a call.
-- Assumes nothing.
use mathlib.Core.Path.{◌≡◌, refl, sym, subst}
use mathlib.Core.Bool.{true}
use mathlib.Core.List.Memᴰ
use mathlib.Core.List.{List}
use mathlib.Core.Option.{none}
use Prim.Native.Nat.{ℕ}
use lib.ListN.{length}
use Rattle.boxes.specs.Boxes.{keep, ◌∈◌}
use Rattle.corners.proofs.Enough.{none_waits}
use Rattle.calls.specs.Call.{Call, Left, is_page, refusal_of, job_of, reply_to, called}
use Rattle.calls.specs.Engine.{Engine, Lent, Leaves, Meets, Answers, Exchange, History}
use Rattle.calls.specs.Refuses.{Refuses, Responds}
use Rattle.calls.specs.Reported.{Reported}
use Rattle.calls.specs.Together.{is_accepted, Together}
use Rattle.demands.proofs.Refuses.{refused, accepted, unchanged, page_passes}
use Rattle.demands.proofs.Accepted.{accepted_sound, paths_fit_lem}
use Rattle.demands.proofs.Complete.{listing_complete}
use Rattle.demands.proofs.Reported.{reported}
use Rattle.demands.proofs.Histories.{exchanges, calls, history_is, history_made, memory_kept, table_zero, replies, Fair, accepted_fair}
use Rattle.demands.proofs.Joined.{fair_sound, fair_few, join, pages_some}

-- of what `called` leaves

accepted_refusal : (memory table : List ℕ) (c : Call) → is_page (called memory table c).reply.answer ≡ true
    → refusal_of memory (length table) c ≡ none
unfolding called reply_to
accepted_refusal memory table c e = page_passes memory (length table) c (refusal_of memory (length table) c) e

refuses : (memory table : List ℕ) (c : Call) → Lent memory table c → Refuses memory table c (called memory table c)
refuses memory table c lent =
    record {
      refused = refused memory table c;
      accepted = accepted memory table c;
      unchanged = unchanged memory table c;
      finishes = λ e.
          let d = accepted_refusal memory table c e in
          none_waits (job_of memory (length table) c)
          (accepted_sound memory (length table) c d lent.memory_words lent.typed.intervals);
    }

reports : (memory table : List ℕ) (c : Call) → Lent memory table c → is_page (called memory table c).reply.answer ≡ true
    → Reported (job_of memory (length table) c) c (called memory table c).reply
reports memory table c lent e =
    let d = accepted_refusal memory table c e in
    unfold called in reported memory (length table) c lent.memory_words lent.typed d

together : (memory table : List ℕ) (cs : List Call) → ((c : Call) → c ∈ cs → Lent memory table c)
    → Together memory table (exchanges memory table cs)
together memory table cs lent =
    let words = length table in
    let fair = accepted_fair memory words table cs refl lent in
    record {
      memory_after_is = memory_kept memory table cs;
      table_after_is = table_zero memory table cs;
      replies = replies memory words table cs refl;
      pages = λ c r.
          let (x, m, s) = pages_some r in
          let sound = fair_sound memory words c (fair x m) s in
          let (a, b) = join memory words c (paths_fit_lem (job_of memory words c) sound (fair_few memory words c (fair x m) s)) r fair in
          record { paths = a; bytes = b; complete = listing_complete (job_of memory words c) sound };
    }

-- of what any engine left
module _ (E : Engine) (meets : Meets E) where
  pub demand_1 : Answers E → {memory table : List ℕ} {c : Call} → Lent memory table c → Responds E memory table c
  demand_1 answers {memory} {table} {c} lent =
      record {
        answered = answers memory table c lent;
        refuses = λ l e. rw (meets memory table c l lent e) (refuses memory table c lent);
      }

  pub demand_2 : {memory table : List ℕ} {c : Call} {l : Left} → Lent memory table c → E memory table c l
      → is_page l.reply.answer ≡ true → Reported (job_of memory (length table) c) c l.reply
  demand_2 {memory} {table} {c} {l} lent e a =
      let q = meets memory table c l lent e in
      rw q (reports memory table c lent (rw q at a))

  module _ {memory table : List ℕ} {xs : List Exchange} (lent : (x : Exchange) → x ∈ xs → Lent memory table x.call) (h : History E memory table xs) where
    calls_lent : (c : Call) → c ∈ calls xs → Lent memory table c
    calls_lent c m = let (x, n, e) = Memᴰ.of_map (λ (x : Exchange). x.call) xs m in rw e at (lent x n)

    pub demand_3 : Together memory table xs
    demand_3 = subst (Together memory table) (sym (history_is E meets lent h)) (together memory table (calls xs) calls_lent)

    -- each accepted call of the list, with its page
    pub history_fair : (x : Exchange) → x ∈ keep is_accepted xs → Fair memory (length table) x
    history_fair x m =
        accepted_fair memory (length table) table (calls xs) refl calls_lent x
        (subst (λ (ys : List Exchange). x ∈ keep is_accepted ys) (history_is E meets lent h) m)

  -- and each list of calls that are lent has such a history
  pub demand_3_made : Answers E → {memory table : List ℕ} (cs : List Call) → ((c : Call) → c ∈ cs → Lent memory table c)
      → (xs : List Exchange) × (calls xs ≡ cs) × History E memory table xs
  demand_3_made answers cs lent = history_made E meets answers cs lent

-- The contract itself is such an engine.
pub leaves_meets : Meets Leaves
leaves_meets memory table c l lent e = e

pub leaves_answers : Answers Leaves
leaves_answers memory table c lent = (called memory table c, refl)
