-- What the reader leaves, and what the server's call makes of it.
-- Assumes nothing.
use mathlib.Core.Path.{◌≡◌, refl, sym, ap, ◌∙◌}
use mathlib.Core.Bool.{true, true≢false}
use mathlib.Core.List.{List}
use mathlib.Core.Option.{Option, none, some}
use Prim.Native.Nat.{ℕ, ◌*◌, ◌≤◌}
use native.Mathlib.Nat.{div-mul-le_self}
use native.Mathlib.Omega.{arith}
use Rattle.std.specs.Prelude.{Ok, Err}
use lib.ListN.{length, take, drop, length-append, length-drop, length-take}
use Rattle.blocks.specs.Record.{most_inputs, record_bytes}
use Rattle.blocks.specs.Report.{records_in}
use Rattle.riscu.specs.Limits.{code_words, memory_words}
use Rattle.calls.specs.Call.{Call, Answer, call_of, is_page, refusal_of, job_of, page, Reply, reply_by, reply_to, Left, left, called}
use Rattle.calls.specs.declared.Refusal.{Refusal}
use Rattle.listing.specs.Listing.{listing}
use Rattle.calls.specs.declared.Page.{Page}
use Rattle.jobs.specs.Job.{input_count, code_in, intervals_in, memory_in, job_read, call_in, job_refusal_of}
use Rattle.jobs.specs.Working.Reading.{counts_in, over, JobAnswer, JobLeft, job_left, read_by, read_to}
use Rattle.jobs.specs.declared.Counts.{Counts}
use Rattle.jobs.proofs.Accepted.{code_length as code_read, intervals_length as intervals_read, memory_length as memory_read, over_taken}
use Rattle.jobs.proofs.Asked.{yes_sized}
use Rattle.serving.specs.Served.{table_words, reply, served_by, served}

-- the reply of an exploration with the program's table
pub explored_reply : (a : Answer) (report table words memory : List ℕ) (c : Call) → left a report words memory ≡ called memory table c → length table ≡ table_words
    → reply a report ≡ reply_to memory table_words c
unfolding called
explored_reply a report table words memory c e n = ap (λ (l : Left). l.reply) e ∙ ap (λ (k : ℕ). reply_to memory k c) n

module _ (job code intervals memory : List ℕ) (c i m : List ℕ) where
  pub read_refused : {r : Refusal} → job_left (Err r) c i m ≡ read_to job code intervals memory → job_refusal_of job ≡ some r
  unfolding read_to read_by
  read_refused {r} e = go (job_refusal_of job) e
    where
      go : (o : Option Refusal) → job_left (Err r) c i m ≡ read_by job code intervals memory o → o ≡ some r
      go (some q) e =
          let a : ◌≡◌ {A = JobAnswer} (Err r) (Err q) = ap (λ (l : JobLeft). l.answer) e in
          let b : q ≡ r = cc in
          ap (λ (x : Refusal). some x) b
      go none e =
          let a : ◌≡◌ {A = JobAnswer} (Err r) (Ok (counts_in job)) = ap (λ (l : JobLeft). l.answer) e in
          let z : ◌≡◌ {A = ℕ} 0 1 = cc in
          absurd (omega arith)

  -- what is known of a job that was read
  pub record JobPassed (k : Counts) : Type 0 where
    pub passes : job_refusal_of job ≡ none
    pub counts : k ≡ counts_in job
    pub code_is : c ≡ over (code_in job) code
    pub intervals_is : i ≡ over (intervals_in job) intervals
    pub memory_is : m ≡ memory_in job

  pub read_passed : {k : Counts} → job_left (Ok k) c i m ≡ read_to job code intervals memory → JobPassed k
  unfolding read_to read_by job_read
  read_passed {k} e = go (job_refusal_of job) refl e
    where
      go : (o : Option Refusal) → job_refusal_of job ≡ o → job_left (Ok k) c i m ≡ read_by job code intervals memory o → JobPassed k
      go (some q) d e =
          let a : ◌≡◌ {A = JobAnswer} (Ok k) (Err q) = ap (λ (l : JobLeft). l.answer) e in
          let z : ◌≡◌ {A = ℕ} 0 1 = cc in
          absurd (omega arith)
      go none d e =
          let a : ◌≡◌ {A = JobAnswer} (Ok k) (Ok (counts_in job)) = ap (λ (l : JobLeft). l.answer) e in
          record {
            passes = d;
            counts = cc;
            code_is = ap (λ (l : JobLeft). l.code) e;
            intervals_is = ap (λ (l : JobLeft). l.intervals) e;
            memory_is = ap (λ (l : JobLeft). l.memory) e;
          }

  module _ {k : Counts} (o : JobPassed k) (code_size : length code ≡ code_words) (intervals_size : length intervals ≡ 2 * most_inputs) where
    code_count : length (code_in job) ≡ k.code
    code_count = code_read job ∙ sym (ap (λ (x : Counts). x.code) o.counts)

    intervals_count : length (intervals_in job) ≡ 2 * k.inputs
    intervals_count = intervals_read job ∙ sym (ap (λ (x : Counts). 2 * x.inputs) o.counts)

    pub code_few : k.code ≤ code_words
    code_few = omega (arith, (yes_sized job o.passes).code, ap (λ (x : Counts). x.code) o.counts)

    pub inputs_few : k.inputs ≤ most_inputs
    inputs_few = omega (arith, (yes_sized job o.passes).inputs, ap (λ (x : Counts). x.inputs) o.counts)

    pub code_length : code_words ≡ length c
    code_length = rw (o.code_is, length-append, length-drop) (omega (arith, code_few, code_count))

    pub intervals_length : 2 * most_inputs ≡ length i
    intervals_length = rw (o.intervals_is, length-append, length-drop) (omega (arith, inputs_few, intervals_count))

    pub memory_length : memory_words ≡ length m
    memory_length = rw o.memory_is (sym (memory_read job (yes_sized job o.passes).given))

    pub code_taken : take k.code c ≡ code_in job
    code_taken = rw o.code_is (over_taken (code_in job) code code_count)

    pub intervals_taken : take (2 * k.inputs) i ≡ intervals_in job
    intervals_taken = rw o.intervals_is (over_taken (intervals_in job) intervals intervals_count)

    pub served_open : (a : Answer) (report left : List ℕ)
        → reply a left ≡ reply_to m table_words (call_of (take k.code c) (take (2 * k.inputs) i) k.limit report k.first)
        → reply a left ≡ served job report
    unfolding served served_by job_read
    served_open a report left e =
        let f = rw (code_taken, intervals_taken, o.memory_is, o.counts) at e in
        rw o.passes f

-- a job that a question refuses: the refusal, and the report as lent
pub served_refused : {r : Refusal} (job report : List ℕ) → job_refusal_of job ≡ some r → served job report ≡ reply (Err r) report
unfolding served served_by
served_refused job report e = rw e

-- only a job that passes its questions is listed
pub listed_passes : (job report : List ℕ) → is_page (served job report).answer ≡ true → job_refusal_of job ≡ none
unfolding served served_by is_page
listed_passes job report e = go (job_refusal_of job) e
  where
    go : (o : Option Refusal) → is_page (served_by job report o).answer ≡ true → o ≡ none
    go none e = refl
    go (some r) e = absurd (true≢false (sym e))

-- and it is answered as the call that it stands for
pub listed_replied : (job report : List ℕ) → is_page (served job report).answer ≡ true
    → served job report ≡ reply_to (job_read job).memory table_words (call_in job report)
listed_replied job report e = let n = listed_passes job report e in unfold served served_by in rw n

-- a page has no more paths than its report holds
pub listed_fits : {p : Page} (job report left : List ℕ) → reply (Ok p) left ≡ served job report
    → p.count * record_bytes (input_count job) ≤ length report
unfolding reply_to reply_by page is_page
listed_fits {p} job report left e =
    let page = ap (λ (y : Reply). is_page y.answer) (sym e) in
    replied (refusal_of (job_read job).memory table_words (call_in job report)) (ap (λ (y : Reply). y.answer) (e ∙ listed_replied job report page))
  where
    replied : (o : Option Refusal) → Ok p ≡ (reply_by (job_read job).memory table_words (call_in job report) o).answer → p.count * record_bytes (input_count job) ≤ length report
    replied (some r) e = let z : ◌≡◌ {A = ℕ} 0 1 = cc in absurd (omega arith)
    replied none e =
        let k : p.count ≡ length (take (records_in (input_count job) report) (drop (job_read job).first (listing (job_of (job_read job).memory table_words (call_in job report))))) = cc in
        omega (arith, simp length-take at k, div-mul-le_self (length report) (record_bytes (input_count job)))
