-- The program's text: the whole of it fits, and of a listing it is what document 01 shows of the listing's paths, which are the first 64
-- from the first wanted on.
-- Assumes nothing.
use mathlib.Core.Path.{◌≡◌, refl, sym, ap, ◌∙◌}
use mathlib.Core.Bool.{true}
use mathlib.Core.List.{List, ◌++◌}
use mathlib.Core.Option.{none, some}
use Prim.Native.Nat.{ℕ, ◌+◌, ◌*◌, ◌^◌, ◌≤◌}
use native.Mathlib.Omega.{arith}
use lib.Dec.{ltb}
use lib.ListN.{length, take, drop}
use Rattle.std.specs.Prelude.{Ok, Err}
use Rattle.blocks.specs.Record.{record_bytes}
use Rattle.blocks.specs.Report.{records_in}
use Rattle.calls.specs.Call.{Call, Answer, inputs_of, Typed, Below, Reply, is_page, refusal_of, job_of, page, reply_by, reply_to}
use Rattle.calls.specs.Questions.{number}
use Rattle.calls.specs.declared.Page.{Page}
use Rattle.calls.specs.declared.Refusal.{Refusal}
use Rattle.demands.proofs.Refuses.{page_passes}
use Rattle.demands.proofs.Reported.{page_few, page_fits, page_inputs}
use Rattle.jobs.specs.Job.{input_count, job_read, call_in, job_refusal_of}
use Rattle.jobs.proofs.Accepted.{intervals_length, accepted_refusal}
use Rattle.jobs.proofs.Asked.{yes_sized}
use Rattle.listing.specs.First.{first}
use Rattle.listing.specs.Group.{Job}
use Rattle.listing.specs.Listing.{Path, listing}
use Rattle.printing.specs.Printed.{turned_away, listing_text}
use Rattle.printing.specs.Working.Lengths.{longest}
use Rattle.printing.specs.Output.{fitted, fitting}
use Rattle.printing.specs.Shown.{listing_of}
use Rattle.printing.proofs.Lengths.{listing_length, refusal_length}
use Rattle.printing.proofs.Outputs.{all_fits}
use Rattle.printing.proofs.Told.{listing_told}
use Rattle.serving.specs.Response.{report_paths, response_by, response_to}
use Rattle.serving.specs.Served.{table_words, reply, served_by, served}
use Rattle.serving.specs.Server.{Bytes}
use Rattle.serving.proofs.JobPassed.{served_refused, listed_passes, listed_replied, listed_fits}
use Rattle.serving.proofs.Lent.{lent}

-- no text is longer than a full report's
pub response_length : (job report : List ℕ) → length (response_to job (served job report)) ≤ longest (records_in (input_count job) report)
unfolding response_by is_page
response_length job report = go (served job report).answer refl
  where
    go : (a : Answer) → (served job report).answer ≡ a → length (response_by (input_count job) a (served job report).report) ≤ longest (records_in (input_count job) report)
    go (Err r) e = omega (arith, refusal_length (number r))
    go (Ok p) e =
        let l = (served job report).report in
        let f = listed_fits job report l (ap (λ (a : Answer). reply a l) (sym e)) in
        let few = (yes_sized job (listed_passes job report (ap is_page e))).inputs in
        omega (arith, listing_length (input_count job) p.count p.more l few)

-- so where such a text fits, the whole text is written
pub response_whole : (job report out : List ℕ) → longest (records_in (input_count job) report) ≤ length out
    → let text = response_to job (served job report) in (fitted text out ≡ text ++ drop (length text) out) × (fitting text out ≡ length text)
response_whole job report out h =
    all_fits (response_to job (served job report)) out (omega (arith, response_length job report))

-- the program's report, and as many bytes for the text
pub program_whole : (job report out : List ℕ) → length report ≡ report_paths * record_bytes (input_count job) → length out ≡ length report
    → let text = response_to job (served job report) in (fitted text out ≡ text ++ drop (length text) out) × (fitting text out ≡ length text)
program_whole job report out r o = response_whole job report out (omega arith)

-- an accepted call's page as text
module _ (memory : List ℕ) (words : ℕ) (c : Call) (bounded : Below (2 ^ 64) memory) (typed : Typed c) (d : refusal_of memory words c ≡ none) where
  abbrev j : Job
  j = job_of memory words c

  abbrev ps : List Path
  ps = page j c

  page_shown : {p : Page} {left : List ℕ} → reply (Ok p) left ≡ reply_to memory words c → listing_text (inputs_of c) p.count p.more left ≡ listing_of c.first ps p.more
  unfolding reply_to reply_by
  page_shown {p} {left} e =
      let f : reply (Ok p) left ≡ reply_by memory words c none = e ∙ ap (reply_by memory words c) d in
      let a : ◌≡◌ {A = Answer} (Ok p) (Ok (record { count = length ps; more = ltb (c.first + length ps) (length (listing j)) })) = ap (λ (y : Reply). y.answer) f in
      let count : p.count ≡ length ps = cc in
      let bytes = ap (λ (y : Reply). y.report) f in
      rw (count, bytes) (listing_told (inputs_of c) (2 ^ 64) (drop (record_bytes (inputs_of c) * length ps) c.report) c.first ps p.more (page_few memory words c bounded typed d) (page_fits memory words c bounded typed d) (page_inputs memory words c bounded typed d))

inputs_in : (job report : List ℕ) → inputs_of (call_in job report) ≡ input_count job
unfolding job_read
inputs_in job report = omega (arith, intervals_length job)

replied_passes : (memory : List ℕ) (words : ℕ) (c : Call) → is_page (reply_to memory words c).answer ≡ true → refusal_of memory words c ≡ none
unfolding reply_to
replied_passes memory words c e = page_passes memory words c (refusal_of memory words c) e

-- the text of a listing
pub response_shown : {p : Page} (job report : List ℕ) → Bytes job report → (served job report).answer ≡ Ok p
    → response_to job (served job report) ≡ listing_of (call_in job report).first (page (job_of (job_read job).memory table_words (call_in job report)) (call_in job report)) p.more
unfolding response_by is_page
response_shown {p} job report b e =
    let l = lent job report b in
    let c = call_in job report in
    let memory = (job_read job).memory in
    let listed : is_page (served job report).answer ≡ true = ap is_page e in
    let q = listed_replied job report listed in
    let y : reply (Ok p) (served job report).report ≡ reply_to memory table_words c = ap (λ (a : Answer). reply a (served job report).report) (sym e) ∙ q in
    let a : is_page (reply_to memory table_words c).answer ≡ true = rw q at listed in
    rw (e, ← inputs_in job report) (page_shown memory table_words c l.memory_words l.typed (replied_passes memory table_words c a) y)

-- a job that a question refuses is turned away
pub program_refused : {r : Refusal} (job report : List ℕ) → job_refusal_of job ≡ some r → response_to job (served job report) ≡ turned_away (number r)
unfolding response_by
program_refused job report e = rw (served_refused job report e)

-- of one that passes its questions the program lists the paths from the first wanted on, as many as exist, and 64 at most
module _ (job report : List ℕ) (b : Bytes job report) (size : length report ≡ report_paths * record_bytes (input_count job))
    (passed : job_refusal_of job ≡ none) where
  abbrev program_call : Call
  program_call = call_in job report

  abbrev program_job : Job
  program_job = job_of (job_read job).memory table_words program_call

  program_passes : refusal_of (job_read job).memory table_words program_call ≡ none
  unfolding first
  program_passes = accepted_refusal job report table_words passed (omega arith) ∙ rw size

  abbrev program_page : List Path
  program_page = page program_job program_call

  program_answers : (served job report).answer
      ≡ Ok (record { count = length program_page; more = ltb (program_call.first + length program_page) (length (listing program_job)) })
  unfolding served served_by reply_to reply_by
  program_answers = rw (passed, program_passes)

  page_paths : program_page ≡ take report_paths (drop program_call.first (listing program_job))
  unfolding page
  page_paths = rw size

  pub program_listed : let ps = take report_paths (drop program_call.first (listing program_job)) in
      response_to job (served job report) ≡ listing_of program_call.first ps (ltb (program_call.first + length ps) (length (listing program_job)))
  program_listed = rw (← page_paths) (response_shown job report b program_answers)
