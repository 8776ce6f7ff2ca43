-- The history of an engine that meets the contract of a call: it is that of `called`; memory, table and replies in it.
-- Assumes nothing.
use mathlib.Core.Path.{◌≡◌, refl, ap, ◌∙◌}
use mathlib.Core.Logic.{⊎_elim}
use mathlib.Core.Bool.{cond, ◌||◌}
use mathlib.Core.List.Memᴰ
use mathlib.Core.List.Memᴰ.{head as here}
use mathlib.Core.List.Memᴰ.{tail as there}
use mathlib.Core.List.{List, [], ◌∷◌, map}
use mathlib.Core.Option.{Option, none, some}
use Prim.Native.Nat.{ℕ, ◌^◌}
use lib.ListN.{length, replicate, length-replicate}
use Rattle.boxes.specs.Boxes.{keep, ◌∈◌}
use Rattle.boxes.proofs.Lists.{by_test, keep_mem}
use Rattle.riscu.proofs.Whole.{words_zero}
use Rattle.calls.specs.Call.{Call, Left, Below, Typed, is_page, refusal_of, reply_by, reply_to, table_by, called}
use Rattle.calls.specs.Engine.{Engine, Lent, Meets, Answers, Exchange, History, over, made}
use Rattle.calls.specs.Together.{memory_after, table_after, is_accepted, any_accepted}
use Rattle.calls.specs.declared.Refusal.{Refusal}
use Rattle.demands.proofs.Refuses.{page_passes}

table_length : (table : List ℕ) (o : Option Refusal) → length (table_by table o) ≡ length table
unfolding table_by
table_length table none = length-replicate (length table) 0
table_length table (some r) = refl

-- the calls of a list with what `called` leaves, each on the memory and the table that the last one left
unfoldable pub exchanges : List ℕ → List ℕ → List Call → List Exchange
exchanges memory table [] = []
exchanges memory table (c ∷ cs) =
    let l = called memory table c in
    record { call = c; left = l } ∷ exchanges l.memory l.table cs

abbrev pub calls : List Exchange → List Call
calls xs = map (λ (x : Exchange). x.call) xs

-- The history of an engine that meets the contract is that of `called`.

table_words : (table : List ℕ) (o : Option Refusal) → Below (2 ^ 64) table → Below (2 ^ 64) (table_by table o)
unfolding table_by
table_words table none h = words_zero (length table)
table_words table (some r) h = h

still_lent : (memory table : List ℕ) (c d : Call) → Lent memory table d
    → Lent (called memory table c).memory (called memory table c).table d
unfolding called
still_lent memory table c d h =
    record {
      memory_words = h.memory_words;
      table_words = table_words table (refusal_of memory (length table) c) h.table_words;
      typed = h.typed;
    }

module _ (E : Engine) (meets : Meets E) where
  pub history_is : {memory table : List ℕ} {xs : List Exchange} → ((x : Exchange) → x ∈ xs → Lent memory table x.call)
      → History E memory table xs → xs ≡ exchanges memory table (calls xs)
  unfolding exchanges
  history_is lent over = refl
  history_is lent (made {memory} {table} {x} {xs} e h) =
      let q : x.left ≡ called memory table x.call = meets memory table x.call x.left (lent x (here refl)) e in
      let r : xs ≡ exchanges x.left.memory x.left.table (calls xs) =
      history_is (λ y m. rw q (still_lent memory table x.call y.call (lent y (there m)))) h in
      ap (λ (ys : List Exchange). x ∷ ys) r
      ∙ ap (λ (l : Left). record { call = x.call; left = l } ∷ exchanges l.memory l.table (calls xs)) q

  -- and there is one for each list of calls that are lent
  pub history_made : Answers E → {memory table : List ℕ} (cs : List Call) → ((c : Call) → c ∈ cs → Lent memory table c)
      → (xs : List Exchange) × (calls xs ≡ cs) × History E memory table xs
  history_made answers [] lent = ([], refl, over)
  history_made answers {memory} {table} (c ∷ cs) lent =
      let (l, e) = answers memory table c (lent c (here refl)) in
      let q : l ≡ called memory table c = meets memory table c l (lent c (here refl)) e in
      let (xs, f, h) = history_made answers {memory = l.memory} {table = l.table} cs (λ d m. rw q (still_lent memory table c d (lent d (there m)))) in
      (record { call = c; left = l } ∷ xs, ap (λ (ds : List Call). c ∷ ds) f, made e h)

-- Each call finds the memory of the first, and a table of as many words.
module _ (memory : List ℕ) where
  pub memory_kept : (table : List ℕ) (cs : List Call) → memory_after memory (exchanges memory table cs) ≡ memory
  unfolding memory_after exchanges called
  memory_kept table [] = refl
  memory_kept table (c ∷ cs) = memory_kept (table_by table (refusal_of memory (length table) c)) cs

  table_step : (table : List ℕ) (c : Call) (cs : List Call) (o : Option Refusal)
      → (let t = table_by table o in
      table_after t (exchanges memory t cs) ≡ cond (any_accepted (exchanges memory t cs)) (replicate (length t) 0) t)
      → let t = table_by table o in
      table_after t (exchanges memory t cs)
      ≡ cond (is_page (reply_by memory (length table) c o).answer || any_accepted (exchanges memory t cs)) (replicate (length table) 0) table
  unfolding table_by reply_by is_page
  table_step table c cs (some r) h = h
  table_step table c cs none h =
      h ∙ by_test (any_accepted (exchanges memory (replicate (length table) 0) cs)) (λ t. rw (t, length-replicate)) (λ t. rw t)

  pub table_zero : (table : List ℕ) (cs : List Call)
      → table_after table (exchanges memory table cs) ≡ cond (any_accepted (exchanges memory table cs)) (replicate (length table) 0) table
  unfolding table_after exchanges called any_accepted reply_to
  table_zero table [] = refl
  table_zero table (c ∷ cs) =
      let o = refusal_of memory (length table) c in
      table_step table c cs o (table_zero (table_by table o) cs)

  module _ (words : ℕ) where
    pub replies : (table : List ℕ) (cs : List Call) → length table ≡ words
        → (let xs = exchanges memory table cs in
        map (λ (x : Exchange). x.left.reply) xs ≡ map (λ (x : Exchange). reply_to memory words x.call) xs)
    unfolding exchanges called
    replies table [] e = refl
    replies table (c ∷ cs) e =
        let o = refusal_of memory (length table) c in
        cc (ap (λ (n : ℕ). reply_to memory n c) e, replies (table_by table o) cs (table_length table o ∙ e))

    reply_is : (table : List ℕ) (cs : List Call) → length table ≡ words → (x : Exchange) → x ∈ exchanges memory table cs
        → (x.left.reply ≡ reply_to memory words x.call) × (x.call ∈ cs)
    unfolding exchanges called
    reply_is table [] e x m = absurd (Memᴰ.not-nil m)
    reply_is table (c ∷ cs) e x m =
        let o = refusal_of memory (length table) c in
        ⊎_elim
        (λ z. rw z (ap (λ (n : ℕ). reply_to memory n c) e, here refl))
        (λ n. let (r, i) = reply_is (table_by table o) cs (table_length table o ∙ e) x n in (r, there i))
        (Memᴰ.cases_cons m)

    -- an accepted call with its page
    pub record Fair (x : Exchange) : Type 0 where
      pub passes : refusal_of memory words x.call ≡ none
      pub reply_is : x.left.reply ≡ reply_by memory words x.call none
      pub memory_words : Below (2 ^ 64) memory
      pub typed : Typed x.call

    pub accepted_fair : (table : List ℕ) (cs : List Call) → length table ≡ words → ((c : Call) → c ∈ cs → Lent memory table c)
        → (x : Exchange) → x ∈ keep is_accepted (exchanges memory table cs) → Fair x
    unfolding reply_to
    accepted_fair table cs e h x m =
        let (n, a) = keep_mem is_accepted (exchanges memory table cs) m in
        let (r, i) = reply_is table cs e x n in
        let d = page_passes memory words x.call (refusal_of memory words x.call) (rw r at a) in
        let l = h x.call i in
        record { passes = d; reply_is = rw d at r; memory_words = l.memory_words; typed = l.typed }
