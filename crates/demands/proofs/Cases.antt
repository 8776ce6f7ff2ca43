-- Document 01's cases under P as calls, with the program's table and report; and Job A in pages of one path.
-- Assumes nothing.
use mathlib.Core.Path.{◌≡◌, refl, sym, ap, ◌∙◌}
use mathlib.Core.Bool.{Bool, true, false}
use mathlib.Core.List.Memᴰ.{head as here}
use mathlib.Core.List.{List, [], ◌∷◌, map, flat_map}
use mathlib.Core.Option.{Option, none}
use Prim.Native.Nat.{ℕ, ◌+◌, ◌-◌, ◌*◌, min}
use native.Mathlib.Omega.{arith}
use lib.Dec.{leb, ltb}
use Rattle.std.specs.Prelude.{Ok}
use lib.ListN.{length, take, drop, replicate, length-replicate, length-map, length-take, length-drop}
use lib.Seq.{take_all}
use borrow.Author.Tests.{leb-true, le-ltb}
use Rattle.boxes.specs.Boxes.{Box, Interval, ◌∈◌}
use Rattle.boxes.proofs.Lists.{map_eq}
use Rattle.listing.specs.Listing.{Path, listing}
use Rattle.corners.proofs.Cases.{line, Case, job_of as case_job, job_a, table, cases_right}
use Rattle.riscu.specs.Limits.{memory_words}
use Rattle.blocks.specs.Record.{record_bytes}
use Rattle.blocks.specs.Report.{records_in}
use Rattle.listing.specs.First.{first}
use Rattle.calls.specs.Questions.{in_order}
use Rattle.calls.specs.Call.{Call, Answer, call_of, box_of, questions, refusal_of, job_of, page, reply_by, reply_to}
use Rattle.calls.specs.declared.Refusal.{Refusal}

-- low, high, low, high, ..
abbrev ends : Box → List ℕ
ends b = flat_map (λ (v : Interval). v.low ∷ v.high ∷ []) b

box_of_ends : (b : Box) → box_of (ends b) ≡ b
unfolding box_of flat_map
box_of_ends [] = refl
box_of_ends (v ∷ b) = ap (λ (r : Box). v ∷ r) (box_of_ends b)

-- the case as a call for path f, with a report of n paths
abbrev call : Case → ℕ → ℕ → Call
call c n f = call_of c.code (ends c.box) c.limit (replicate (record_bytes (length c.box) * n) 0) f

abbrev memory : List ℕ
memory = replicate memory_words 0

abbrev words : ℕ
words = 8192

same_job : (c : Case) (n f : ℕ) → job_of memory words (call c n f) ≡ case_job c
unfolding job_of
same_job c n f = rw (box_of_ends c.box)

-- a report of n paths holds n paths
report_places : (k n : ℕ) → records_in k (replicate {A = ℕ} (record_bytes k * n) 0) ≡ n
report_places k n = rw length-replicate (omega arith)

-- what a case says that passes the questions and whose lines are right
module _ (c : Case) (n f : ℕ) (passes : refusal_of memory words (call c n f) ≡ none) (right : map line (listing (case_job c)) ≡ c.lines) where
  page_is : page (job_of memory words (call c n f)) (call c n f) ≡ take n (drop f (listing (case_job c)))
  unfolding page
  page_is = rw (same_job c n f, report_places (length c.box) n)

  as_many : length (listing (case_job c)) ≡ length c.lines
  as_many = sym (length-map (listing (case_job c)) line) ∙ ap length right

  answer_is : (reply_to memory words (call c n f)).answer
      ≡ Ok (record { count = min n (length c.lines - f); more = ltb (f + min n (length c.lines - f)) (length c.lines) })
  unfolding reply_to reply_by
  answer_is = rw (passes, page_is, same_job c n f, length-take, length-drop, as_many)

-- The whole table, each case on one page: its lines, and no further path.

pub record Answered (c : Case) : Type 0 where
  pub answer : (reply_to memory words (call c 64 0)).answer ≡ Ok (record { count = length c.lines; more = false })
  pub lines : map line (page (job_of memory words (call c 64 0)) (call c 64 0)) ≡ c.lines

-- no question is answered no, and the lines fit
record Ready : Type 0 where
  refusal : Option Refusal
  fits : Bool

abbrev ready : (ℕ × Case) → Ready
ready x = record { refusal = refusal_of memory words (call x.1 64 0); fits = leb (length x.1.lines) 64 }

abbrev wanted : (ℕ × Case) → Ready
wanted x = record { refusal = none; fits = true }

all_ready : map ready table ≡ map wanted table
unfolding first questions in_order box_of flat_map
all_ready = refl

pub cases_answered : (x : ℕ × Case) → x ∈ table → Answered x.1
cases_answered x m =
    let c = x.1 in
    let e = map_eq ready wanted table all_ready x m in
    let o = ap (λ (r : Ready). r.refusal) e in
    let l = leb-true (length c.lines) 64 (ap (λ (r : Ready). r.fits) e) in
    let right = cases_right x m in
    let all : take 64 (listing (case_job c)) ≡ listing (case_job c) =
    take_all 64 (listing (case_job c)) (omega (arith, as_many c 64 0 o right)) in
    let k : min 64 (length c.lines - 0) ≡ length c.lines = omega arith in
    record {
      answer = answer_is c 64 0 o right ∙ rw (k, le-ltb (0 + length c.lines) (length c.lines) (omega arith));
      lines = ap (λ (ps : List Path). map line ps) (page_is c 64 0 o right ∙ all) ∙ right;
    }

-- Job A: "paths 2 more 0", with its two lines
pub job_a_lem : Answered job_a
job_a_lem = cases_answered (10, job_a) (here refl)

-- Job A in pages of one path; a first path past the last gives 0 and no
abbrev answer_a : ℕ → Answer
answer_a f = (reply_to memory words (call job_a 1 f)).answer

all_pass : (refusal_of memory words (call job_a 1 0) ≡ none) × (refusal_of memory words (call job_a 1 1) ≡ none)
    × (refusal_of memory words (call job_a 1 2) ≡ none)
unfolding first questions in_order box_of flat_map
all_pass = (refl, refl, refl)

pub job_a_pages : (answer_a 0 ≡ Ok (record { count = 1; more = true })) × (answer_a 1 ≡ Ok (record { count = 1; more = false }))
    × (answer_a 2 ≡ Ok (record { count = 0; more = false }))
job_a_pages =
    let right = cases_right (10, job_a) (here refl) in
    (answer_is job_a 1 0 all_pass.0 right, answer_is job_a 1 1 all_pass.1 right, answer_is job_a 1 2 all_pass.2 right)
