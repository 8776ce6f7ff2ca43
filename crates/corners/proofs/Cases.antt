-- Document 01's cases under P, as one table: each is a job whose whole listing is decided by moves at the corners.
-- Assumes nothing.
use mathlib.Core.Path.{◌≡◌, refl, ap, ◌∙◌}
use mathlib.Core.Bool.{Bool, true, ◌&&◌, and-eq-true_iff}
use mathlib.Core.List.{List, [], ◌∷◌, ◌++◌, map}
use Prim.Native.Nat.{ℕ, zero, suc, ◌*◌, ◌^◌, ◌-◌}
use native.Mathlib.Omega.{arith}
use lib.Dec.{ltb, leb}
use lib.ListN.{length, get_or, replicate, length-replicate}
use borrow.Author.Tests.{leb-true, ltb-true}
use Rattle.boxes.specs.Boxes.{Box, Interval, ◌⋯◌, highs, from, every, ◌∈◌}
use Rattle.boxes.specs.Working.Cuts.{Proper, bisect, edge, corner_pieces}
use Rattle.boxes.proofs.Lists.{map_eq}
use Rattle.words.specs.Word.{size, signed, widen}
use Rattle.riscu.specs.Decode.{rows, search, decode_of}
use Rattle.riscu.specs.Machine.{start, operate, read_next, step, fetch, step_decoded, run}
use Rattle.riscu.proofs.Whole.{words_zero}
use Rattle.listing.specs.Group.{Job, Group, after, sort_of, comparison, sorting_of, class_by, class_of}
use Rattle.listing.specs.Ending.{first, operation_points, operand_points, address_points, points}
use Rattle.listing.specs.Ending.{writes, needs, end_at, end_by}
use Rattle.listing.specs.Listing.{Path, path_of, split_by, move_by, move_from, moves, begin, listing}
use Rattle.listing.specs.Numbers.{kind_number, reason_word}
use Rattle.corners.proofs.CornerListing.{listing_is}
use Rattle.riscu.specs.Working.Whole.{AllWords}
use Rattle.corners.specs.Working.Good.{Sound, corners_of}
use Rattle.corners.specs.Working.Tags.{tag_step, tag_decoded, tags_at, tag_by, class_tag}

-- what a case says of a path: kind, pc, steps, box, register 10 (for kind 1 the exit value), and the reason of kind 8
pub record Line : Type 0 where
  pub kind : ℕ
  pub pc : ℕ
  pub steps : ℕ
  pub box : Box
  pub value : Interval
  pub reason : ℕ

abbrev pub line : Path → Line
line p =
    record {
      kind = kind_number p.end;
      pc = p.pc;
      steps = p.steps;
      box = p.box;
      value = get_or p.registers 10 (0 ⋯ 0);
      reason = reason_word p.end;
    }

-- a job, and the lines of its whole listing
pub record Case : Type 0 where
  pub code : List ℕ
  pub limit : ℕ
  pub box : Box
  pub lines : List Line

abbrev pub job_of : Case → Job
job_of c = record { code = c.code; memory = replicate 512 0; limit = c.limit; box = c.box; entries = 1024 }

abbrev pub Right : Case → Type 0
Right c = map line (listing (job_of c)) ≡ c.lines

-- what the call asks of a case's job
abbrev ordered : Interval → Bool
ordered v = leb v.low v.high && ltb v.high size

abbrev fine : Case → Bool
fine c = leb (length c.code) 1024 && every ordered c.box

ordered_box : (b : Box) → every ordered b ≡ true → Proper b × AllWords (highs b)
unfolding every
ordered_box [] e = (tt, λ k. omega arith)
ordered_box (v ∷ b) e =
    let (o, r) = (and-eq-true_iff (ordered v) (every ordered b)).0 e in
    let (p, q) = (and-eq-true_iff (leb v.low v.high) (ltb v.high size)).0 o in
    let (proper, words) = ordered_box b r in
    ((leb-true v.low v.high p, proper), elim [ zero ↦ ltb-true v.high size q | suc k ↦ words k ])

sound : (c : Case) → fine c ≡ true → Sound (job_of c) (job_of c).box
sound c e =
    let (p, q) = (and-eq-true_iff (leb (length c.code) 1024) (every ordered c.box)).0 e in
    let (proper, words) = ordered_box c.box q in
    record {
      code = leb-true (length c.code) 1024 p;
      memory = record { count = length-replicate {A = ℕ} 512 0; words = words_zero 512 };
      proper = proper;
      inputs = words;
    }

-- right, by n moves at the corners
right : (c : Case) (n : ℕ) → fine c ≡ true → (moves corners_of (job_of c) n).waiting ≡ []
    → map line (moves corners_of (job_of c) n).ended ≡ c.lines
    → Right c
right c n f e d = ap (λ (ps : List Path). map line ps) (listing_is (job_of c) (sound c f) n e) ∙ d

-- what n moves at the corners give, and what they should
record Outcome : Type 0 where
  fine : Bool
  waiting : List Group
  lines : List Line

abbrev outcome : (ℕ × Case) → Outcome
outcome x =
    let s = moves corners_of (job_of x.1) x.0 in
    record { fine = fine x.1; waiting = s.waiting; lines = map line s.ended }

abbrev wanted : (ℕ × Case) → Outcome
wanted x = record { fine = true; waiting = []; lines = x.1.lines }

-- The programs of the cases: read one input v into register 5, or a second one w into register 6, put a value into register 10, exit.

abbrev read_one : List ℕ
read_one = 0x03F00893 ∷ 0x00800613 ∷ 0x00000073 ∷ 0x00003283 ∷ []

abbrev read_two : List ℕ
read_two = read_one ++ (0x00000513 ∷ 0x00000073 ∷ 0x00003303 ∷ [])

abbrev exit : List ℕ
exit = 0x05D00893 ∷ 0x00000073 ∷ []

-- v < 10: Job A's code
abbrev less10 : List ℕ
less10 = read_one ++ (0x00A00313 ∷ 0x0062B533 ∷ exit)

-- 10 - v < 1
abbrev ten_less : List ℕ
ten_less = read_one ++ (0x00A00313 ∷ 0x405303B3 ∷ 0x00100E13 ∷ 0x01C3B533 ∷ exit)

-- v + 5
abbrev plus5 : List ℕ
plus5 = read_one ++ (0x00528513 ∷ exit)

-- v * 2, v * 4
abbrev times2 : List ℕ
times2 = read_one ++ (0x00200313 ∷ 0x02628533 ∷ exit)

abbrev times4 : List ℕ
times4 = read_one ++ (0x00400313 ∷ 0x02628533 ∷ exit)

-- v mod 5
abbrev mod5 : List ℕ
mod5 = read_one ++ (0x00500313 ∷ 0x0262F533 ∷ exit)

-- v + w
abbrev sum : List ℕ
sum = read_two ++ (0x00628533 ∷ exit)

-- v < 0
abbrev less_zero : List ℕ
less_zero = read_one ++ (0x0002B533 ∷ exit)

abbrev case : List ℕ → ℕ → Box → List Line → Case
case code limit box lines = record { code = code; limit = limit; box = box; lines = lines }

-- a path of n instructions in a row, and so at pc 4 * n
abbrev straight : ℕ → ℕ → ℕ → Box → Interval → Line
straight kind reason n b v = record { kind = kind; pc = 4 * n; steps = n; box = b; value = v; reason = reason }

abbrev exits : ℕ → Box → Interval → Line
exits = straight 1 0

abbrev limited : ℕ → Box → Interval → Line
limited = straight 7 0

-- the quotients are more than 1 apart; register 10 still has what read left in it
abbrev reason5 : ℕ → Box → Line
reason5 n b = straight 8 5 n b (8 ⋯ 8)

abbrev one : ℕ → ℕ → Box
one l h = (l ⋯ h) ∷ []

abbrev top : ℕ
top = 2 ^ 64 - 1

-- Job A
abbrev pub job_a : Case
job_a = case less10 100 (one 0 255) (exits 7 (one 0 9) (1 ⋯ 1) ∷ exits 7 (one 10 255) (0 ⋯ 0) ∷ [])

-- Job A and document 01's cases under P, in its order; each with its number of moves
abbrev pub table : List (ℕ × Case)
table =
    (10, job_a)
    ∷ (6, case less10 5 (one 0 255) (limited 5 (one 0 255) (8 ⋯ 8) ∷ []))
    ∷ (10, case less10 7 (one 0 255) (limited 7 (one 0 9) (1 ⋯ 1) ∷ limited 7 (one 10 255) (0 ⋯ 0) ∷ []))
    ∷ (16, case ten_less 100 (one 0 255) (exits 9 (one 0 9) (0 ⋯ 0) ∷ exits 9 (one 10 10) (1 ⋯ 1) ∷ exits 9 (one 11 255) (0 ⋯ 0) ∷ []))
    ∷ (9, case plus5 100 (one 0 top) (exits 6 (one 0 (top - 5)) (5 ⋯ top) ∷ exits 6 (one (top - 4) top) (0 ⋯ 4) ∷ []))
    ∷ (10, case times2 100 (one 0 (2 ^ 63)) (exits 7 (one 0 (2 ^ 63 - 1)) (0 ⋯ (top - 1)) ∷ exits 7 (one (2 ^ 63) (2 ^ 63)) (0 ⋯ 0) ∷ []))
    ∷ (6, case times4 100 (one 0 (2 ^ 63)) (reason5 5 (one 0 (2 ^ 63)) ∷ []))
    ∷ (10, case mod5 100 (one 3 6) (exits 7 (one 3 4) (3 ⋯ 4) ∷ exits 7 (one 5 6) (0 ⋯ 1) ∷ []))
    ∷ (10, case mod5 100 (one 3 7) (exits 7 (one 3 4) (3 ⋯ 4) ∷ exits 7 (one 5 7) (0 ⋯ 2) ∷ []))
    ∷ (6, case mod5 100 (one 0 10) (reason5 5 (one 0 10) ∷ []))
    ∷ (10, case sum 100 ((5 ⋯ 5) ∷ (5 ⋯ 5) ∷ []) (exits 9 ((5 ⋯ 5) ∷ (5 ⋯ 5) ∷ []) (10 ⋯ 10) ∷ []))
    ∷ (7, case less_zero 100 (one 0 255) (exits 6 (one 0 255) (0 ⋯ 0) ∷ []))
    ∷ []

-- the whole table, by one computation
outcomes : map outcome table ≡ map wanted table
unfolding every moves move_from move_by split_by path_of from begin
    end_by end_at needs writes points address_points operand_points operation_points first
    corner_pieces edge bisect tags_at tag_decoded tag_step class_tag tag_by
    class_of class_by sorting_of sort_of comparison after run step_decoded fetch step read_next operate start decode_of search rows signed widen
outcomes = refl

pub cases_right : (x : ℕ × Case) → x ∈ table → Right x.1
cases_right x m =
    let e = map_eq outcome wanted table outcomes x m in
    right x.1 x.0 (ap (λ (o : Outcome). o.fine) e) (ap (λ (o : Outcome). o.waiting) e) (ap (λ (o : Outcome). o.lines) e)
