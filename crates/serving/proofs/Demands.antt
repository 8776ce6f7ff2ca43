-- The server's calls and the demands: each job is judged by the first no of its questions, and a listed one leaves what a call on the
-- job's memory and a zero table leaves, so its report and its joined pages are the plain listing's.
-- Assumes nothing.
use mathlib.Core.Path.{◌≡◌, refl, sym, ap, ◌∙◌, subst}
use mathlib.Core.Logic.{◌↔◌, ⊎_elim}
use mathlib.Core.Bool.{true}
use mathlib.Core.List.Memᴰ
use mathlib.Core.List.Memᴰ.{head as here}
use mathlib.Core.List.Memᴰ.{tail as there}
use mathlib.Core.List.{List, [], ◌∷◌, flat_map}
use mathlib.Core.Option.{Option, none, some}
use Prim.Native.Nat.{ℕ}
use native.Mathlib.Omega.{arith}
use lib.ListN.{length, replicate, length-replicate}
use Rattle.boxes.specs.Boxes.{keep, ◌∈◌}
use Rattle.boxes.proofs.Lists.{by_test, map_cong, keep_all}
use Rattle.listing.specs.First.{first}
use Rattle.listing.specs.Group.{view_of}
use Rattle.listing.specs.Listing.{moves, enough}
use Rattle.listing.proofs.First.{none_applies, first_stays, first_goes}
use Rattle.calls.specs.Questions.{Question, AllYes}
use Rattle.calls.specs.Call.{Call, Left, Reply, is_page, refusal_of, job_of, reply_by, reply_to, table_by, called}
use Rattle.calls.specs.Border.{refusal_by}
use Rattle.calls.specs.Engine.{Lent, Leaves, Exchange, History, over, made}
use Rattle.calls.specs.Refuses.{FirstNo}
use Rattle.calls.specs.Reported.{Reported}
use Rattle.calls.specs.Together.{is_accepted, Pages, Joined}
use Rattle.std.specs.Prelude.{Err}
use Rattle.calls.specs.declared.Refusal.{Refusal}
use Rattle.calls.proofs.Asked.{first_no}
use Rattle.demands.proofs.Demands.{leaves_meets, leaves_answers, demand_1, demand_2, demand_3}
use Rattle.demands.proofs.Refuses.{page_passes, passes_page, refused_asks, asks_refused, reply_refusal}
use Rattle.jobs.specs.Job.{job_read, call_in, job_questions, job_refusal_of}
use Rattle.jobs.proofs.Accepted.{accepted_refusal}
use Rattle.serving.specs.Served.{table_words, served_by, served}
use Rattle.serving.specs.Server.{Bytes, ServedCall, Made, call_by, memory_by, server_questions, ServedResponds, zeros, exchanges_of, ServedTogether}
use Rattle.serving.proofs.JobPassed.{listed_replied}
use Rattle.serving.proofs.Lent.{lent}

pub zeros_length : length zeros ≡ table_words
zeros_length = length-replicate {A = ℕ} table_words 0

-- Demand 1: each call has an answer, and what is left is by the first no of the server's questions.

pub server_answers : (bytes report : List ℕ) → Bytes bytes report → (l : Reply) × Made (record { job = bytes; report = report; left = l })
server_answers bytes report b = (served bytes report, record { bytes = b; leaves = refl })

module _ (bytes report : List ℕ) where
  abbrev memory : List ℕ
  memory = (job_read bytes).memory

  abbrev c : Call
  c = call_in bytes report

  abbrev asked : List Question
  asked = server_questions bytes report

  -- a job that passes its questions is refused by question 7 alone
  served_by_lem : served bytes report ≡ reply_by memory table_words c (first asked)
  unfolding served served_by reply_to reply_by
  served_by_lem = go (job_refusal_of bytes) refl
    where
      go : (o : Option Refusal) → job_refusal_of bytes ≡ o → served_by bytes report (job_refusal_of bytes) ≡ reply_by memory table_words c (first asked)
      go (some r) e = rw (first_stays (job_questions bytes) _ e, e)
      go none e = rw (first_goes (job_questions bytes) _ e, e) (ap (reply_by memory table_words c) (accepted_refusal bytes report table_words e (omega arith)))

  pub server_refusal : refusal_by (served bytes report).answer ≡ first asked
  server_refusal = rw served_by_lem (reply_refusal memory table_words c (first asked))

  pub server_refused : (r : Refusal) → ((served bytes report).answer ≡ Err r) ↔ FirstNo asked r
  server_refused r = rw served_by_lem (
    λ e. (first_no asked r).0 (refused_asks memory table_words c r (first asked) e),
    λ f. asks_refused memory table_words c r (first asked) ((first_no asked r).1 f),
  )

  pub server_listed : (is_page (served bytes report).answer ≡ true) ↔ AllYes asked
  server_listed = rw served_by_lem (
    λ e. (none_applies asked).0 (page_passes memory table_words c (first asked) e),
    λ h. passes_page memory table_words c (first asked) ((none_applies asked).1 h),
  )

  unchanged : (r : Refusal) → (served bytes report).answer ≡ Err r → (served bytes report).report ≡ report
  unfolding reply_by
  unchanged r e = rw (served_by_lem, (first_no asked r).1 ((server_refused r).0 e))

-- Demand 2: a listing is the page of the call that the job stands for.

abbrev left_by : List ℕ → List ℕ → Left
left_by job report = called (job_read job).memory zeros (call_in job report)

pub listed_called : (job report : List ℕ) → is_page (served job report).answer ≡ true → served job report ≡ (left_by job report).reply
unfolding called
listed_called job report e = rw zeros_length (listed_replied job report e)

-- the exploration of a listed job finishes
finishes : (bytes report : List ℕ) → Bytes bytes report → is_page (served bytes report).answer ≡ true
    → let j = job_of (job_read bytes).memory table_words (call_in bytes report) in (moves view_of j (enough j)).waiting ≡ []
finishes bytes report b e =
    rw (← zeros_length)
    (((demand_1 Leaves leaves_meets leaves_answers (lent bytes report b)).refuses (left_by bytes report) refl).finishes (rw (listed_called bytes report e) at e))

server_reported : (job report : List ℕ) → Bytes job report → is_page (served job report).answer ≡ true
    → Reported (job_of (job_read job).memory table_words (call_in job report)) (call_in job report) (served job report)
server_reported job report b e =
    let q = listed_called job report e in
    rw (q, ← zeros_length) (demand_2 Leaves leaves_meets (lent job report b) refl (rw q at e))

responds : (y : ServedCall) → Made y → ServedResponds y
responds y o =
    record {
      refused = rw o.leaves (server_refused y.job y.report);
      listed = rw o.leaves (server_listed y.job y.report);
      finishes = rw o.leaves (finishes y.job y.report o.bytes);
      unchanged = rw o.leaves (unchanged y.job y.report);
      reported = rw o.leaves (server_reported y.job y.report o.bytes);
    }

-- Demand 3: listed jobs with one memory, each explored with a zero table, are a list of calls on one memory and one table.

zero_stays : (n : ℕ) (o : Option Refusal) → table_by (replicate n 0) o ≡ replicate n 0
unfolding table_by
zero_stays n (some r) = refl
zero_stays n none = ap (λ (k : ℕ). replicate k 0) (length-replicate {A = ℕ} n 0)

table_stays : (memory : List ℕ) (c : Call) → (called memory zeros c).table ≡ zeros
unfolding called
table_stays memory c = zero_stays table_words (refusal_of memory (length zeros) c)

abbrev left_with : Reply → List ℕ → List ℕ → Left
left_with r table memory = record { reply = r; table = table; memory = memory }

abbrev exchange : ServedCall → Exchange
exchange y = record { call = call_by y; left = left_with y.left zeros (memory_by y) }

-- such a call leaves what the call that it stands for leaves
exchange_called : (y : ServedCall) → Made y → is_page y.left.answer ≡ true → (exchange y).left ≡ called (memory_by y) zeros (call_by y)
unfolding called
exchange_called y o e =
    let q = o.leaves ∙ listed_called y.job y.report (rw o.leaves at e) in
    let t = table_stays (memory_by y) (call_by y) in
    ap (λ (r : Reply). left_with r zeros (memory_by y)) q ∙ ap (λ (w : List ℕ). left_with (left_by y.job y.report).reply w (memory_by y)) (sym t)

module _ (memory : List ℕ) where
  -- the calls of the list that are listed bring this memory
  abbrev pub Brings : List ServedCall → Type 0
  Brings ys = (y : ServedCall) → y ∈ ys → is_page y.left.answer ≡ true → memory_by y ≡ memory

  history_one : (y : ServedCall) (ys : List ServedCall) → Made y → (is_page y.left.answer ≡ true → memory_by y ≡ memory)
      → History Leaves memory zeros (exchanges_of ys) → History Leaves memory zeros (exchanges_of (y ∷ ys))
  unfolding flat_map
  history_one y ys o b rest =
      by_test (is_page y.left.answer)
      (λ e. let q = b e in rw (e, q) (made (rw q at (exchange_called y o e)) rest))
      (λ e. rw e rest)

  pub history : (ys : List ServedCall) → ((y : ServedCall) → y ∈ ys → Made y) → Brings ys → History Leaves memory zeros (exchanges_of ys)
  unfolding flat_map
  history [] h b = over
  history (y ∷ ys) h b =
      history_one y ys (h y (here refl)) (b y (here refl)) (history ys (λ z n. h z (there n)) (λ z n. b z (there n)))

  -- what holds of the call of each listed job holds of each call of the list
  module _ (P : Exchange → Type 0) where
    abbrev OfListed : ServedCall → Type 0
    OfListed y = is_page y.left.answer ≡ true → P (exchange y)

    of_one : (y : ServedCall) (ys : List ServedCall) (x : Exchange) → OfListed y → (x ∈ exchanges_of ys → P x) → x ∈ exchanges_of (y ∷ ys) → P x
    unfolding flat_map
    of_one y ys x h rest n =
        by_test (is_page y.left.answer)
        (λ e. ⊎_elim (λ z. rw z (h e)) rest (Memᴰ.cases_cons (rw e at n)))
        (λ e. rest (rw e at n))

    of_listed : (ys : List ServedCall) → ((y : ServedCall) → y ∈ ys → OfListed y) → (x : Exchange) → x ∈ exchanges_of ys → P x
    unfolding flat_map
    of_listed [] h x n = absurd (Memᴰ.not-nil n)
    of_listed (y ∷ ys) h x n = of_one y ys x (h y (here refl)) (of_listed ys (λ z i. h z (there i)) x) n

  module _ (ys : List ServedCall) (h : (y : ServedCall) → y ∈ ys → Made y) (b : Brings ys) where
    pub all_accepted : keep is_accepted (exchanges_of ys) ≡ exchanges_of ys
    all_accepted = keep_all is_accepted (exchanges_of ys) (of_listed (λ (x : Exchange). is_accepted x ≡ true) ys (λ y n e. e))

    pub all_lent : (x : Exchange) → x ∈ exchanges_of ys → Lent memory zeros x.call
    all_lent =
        of_listed (λ (x : Exchange). Lent memory zeros x.call) ys
        (λ y n e. subst (λ (w : List ℕ). Lent w zeros (call_by y)) (b y n e) (lent y.job y.report (h y n).bytes))

    joined : (c : Call) → Pages c 0 (exchanges_of ys) → Joined (job_of memory table_words c) (exchanges_of ys)
    joined c r =
        let t = demand_3 Leaves leaves_meets all_lent (history ys h b) in
        subst (λ (n : ℕ). Joined (job_of memory n c) (exchanges_of ys)) zeros_length
        (subst (λ (xs : List Exchange). Joined (job_of memory (length zeros) c) xs) all_accepted
        (t.pages c (subst (Pages c 0) (sym all_accepted) r)))

pub server_together : (ys : List ServedCall) → ((y : ServedCall) → y ∈ ys → Made y) → ServedTogether ys
server_together ys h =
    record {
      replies = map_cong (λ (y : ServedCall). y.left) (λ (y : ServedCall). served y.job y.report) ys (λ y n. (h y n).leaves);
      responds = λ y n. responds y (h y n);
      pages = λ memory c b r. joined memory ys h b c r;
    }
