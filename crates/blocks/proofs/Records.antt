-- The words of a report's records.
-- Assumes nothing.
use Rattle.std.proofs.Common.{◌≡◌, ℕ, suc, ◌+◌, ◌*◌, ◌/◌, ◌^◌, ◌<◌, ◌≤◌, List, ◌++◌, length, get_or, take, drop, sym, ap, ◌∙◌, mul-le-mul_left, mul-suc, arith, length-drop, take-append-drop, length-take-le, take_at}
use native.Mathlib.Nat.{mul-div-le}
use lib.Seq.{drop-append-add}
use Rattle.blocks.specs.Block.{word_bytes, word_at}
use Rattle.blocks.specs.Record.{record_words, record_bytes}
use Rattle.blocks.specs.Report.{records_in, record_at}
use Rattle.blocks.proofs.Bytes.{eight_below, word_from, word_left}

-- of the whole parts of one size that a list has, each lies inside it
pub part_inside : (size : ℕ) (l : List ℕ) (k : ℕ) → k < length l / size → size * k + size ≤ length l
part_inside size l k h = omega (arith, mul-suc size k, mul-le-mul_left {m = suc k} {n = length l / size} size h, mul-div-le (length l) size)

pub record_inside : (n : ℕ) (report : List ℕ) (k : ℕ) → k < records_in n report → record_bytes n * k + record_bytes n ≤ length report
record_inside n = part_inside (record_bytes n)

pub record_read : (n : ℕ) (report : List ℕ) (k p : ℕ) → k < records_in n report → p < record_words n
    → word_at (drop (record_bytes n * k + p * word_bytes) report) 0 ≡ word_at (record_at n report k) p
record_read n report k p h l =
    let rest = drop (record_bytes n * k) report in
    let inside = record_inside n report k h in
    let size : length (take (record_bytes n) rest) ≡ record_bytes n = length-take-le (record_bytes n) rest (rw length-drop (omega arith)) in
    word_from report (record_bytes n * k) p
    ∙ ap (λ (l : List ℕ). word_at l p) (sym (take-append-drop (record_bytes n) rest))
    ∙ word_left (take (record_bytes n) rest) (drop (record_bytes n) rest) p (omega arith)

-- words, whatever bytes the report holds
pub record_below : (n : ℕ) (report : List ℕ) → ((i : ℕ) → get_or report i 0 < 2 ^ 8) → (k p : ℕ) → k < records_in n report
    → p < record_words n → word_at (record_at n report k) p < 2 ^ 64
record_below n report bytes k p h l = rw (← record_read n report k p h l) (eight_below report bytes (record_bytes n * k + p * word_bytes))

-- the first record, and those behind it
module _ (n : ℕ) (x rest : List ℕ) (size : length x ≡ record_bytes n) where
  pub record_first : record_at n (x ++ rest) 0 ≡ x
  record_first = take_at x rest (record_bytes n) size

  pub record_behind : (k : ℕ) → record_at n (x ++ rest) (suc k) ≡ record_at n rest k
  record_behind k =
      let e : record_bytes n * suc k ≡ length x + record_bytes n * k = omega arith in
      rw (e, drop-append-add x rest (record_bytes n * k))
