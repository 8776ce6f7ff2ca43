-- A report of written records, read back: each tells its path, and with 1 to 8 inputs question 12 never turns it away.
-- Assumes nothing.
use mathlib.Core.Path.{◌≡◌, ◌∙◌}
use mathlib.Core.Bool.{true}
use mathlib.Core.List.{List}
use mathlib.Core.Option.{some}
use Prim.Native.Nat.{ℕ, ◌+◌, ◌*◌, ◌%◌, ◌≤◌, ◌<◌}
use native.Mathlib.Omega.{arith}
use lib.ListN.{length, get_elem?}
use borrow.Author.Tests.{le-leb, eq-eqb}
use Rattle.boxes.specs.Boxes.{every, ◌∈◌}
use Rattle.boxes.proofs.Places.{nonempty, place_mem, place_exists, place_below}
use Rattle.listing.specs.Listing.{Path}
use Rattle.blocks.specs.Reading.{Tells}
use Rattle.blocks.specs.Record.{most_inputs, record_bytes, records}
use Rattle.blocks.specs.Report.{records_in, record_at}
use Rattle.blocks.proofs.Checks.{checks_records}
use Rattle.blocks.proofs.Each.{each_all}
use Rattle.blocks.proofs.Reading.{Fits, records_length, records_at, record_tells}
use Rattle.reports.specs.Readable.{records_of, has_count, readable}
use Rattle.reports.proofs.Records.{count_at, counts_each}

-- the paths ps, numbered from first on, have n inputs each, and all that their records hold are words
pub record Writable (n first : ℕ) (ps : List Path) : Type 0 where
  pub words : (p : Path) → p ∈ ps → (k : ℕ) → k < first + length ps → Fits k p
  pub inputs : (p : Path) → p ∈ ps → length p.box ≡ n

module _ {n first : ℕ} {ps : List Path} (w : Writable n first ps) where
  abbrev report : List ℕ
  report = records first ps

  sizes : (p : Path) → p ∈ ps → (length p.box ≤ most_inputs) × (length p.registers ≡ 32)
  sizes p m = let f = w.words p m first (omega (arith, nonempty ps m)) in (f.inputs, f.registers)

  pub report_length : length report ≡ record_bytes n * length ps
  report_length = records_length n first ps sizes

  pub report_records : records_in n report ≡ length ps
  report_records = omega (arith, report_length)

  pub tells_at : (i : ℕ) (p : Path) → get_elem? ps i ≡ some p → Tells (record_at n report i) (first + i) p
  tells_at i p e =
      rw (records_at n first ps sizes i p e)
      (record_tells (first + i) p (w.words p (place_mem ps i e) (first + i) (omega (arith, place_below ps i e))))

  counts_right : every (has_count n) (records_of n report) ≡ true
  counts_right =
      counts_each n report
      ∙ each_all (count_at n report) (records_in n report) 0
      (λ i l m.
      let (p, e) = place_exists ps i (omega (arith, report_records)) in
      eq-eqb _ _ ((tells_at i p e).inputs ∙ w.inputs p (place_mem ps i e)))

  pub written_readable : 1 ≤ n → n ≤ most_inputs → readable n report ≡ true
  unfolding readable
  written_readable some_input few =
      rw (
        le-leb _ _ some_input,
        le-leb _ _ few,
        eq-eqb (length report % record_bytes n) 0 (omega (arith, report_length)),
        counts_right,
        checks_records first ps w.words,
      )
