-- The sheet of a report that tells some paths is the sheet of these paths.
-- Assumes nothing.
use mathlib.Core.Path.{◌≡◌, refl, ap}
use mathlib.Core.List.{List, [], ◌∷◌, ◌++◌, map, flat_map, append-nil, append_assoc}
use Prim.Native.Nat.{ℕ, zero, suc, ◌+◌}
use native.Mathlib.Numerals.{add-one}
use native.Mathlib.Omega.{arith}
use lib.ListN.{length}
use Rattle.boxes.specs.Boxes.{Interval, from}
use Rattle.listing.specs.Listing.{Path}
use Rattle.blocks.specs.Record.{records}
use Rattle.blocks.specs.Said.{Said, said_at, said_of_all}
use Rattle.blocks.proofs.Said.{all_told}
use Rattle.reports.proofs.Written.{Writable, report_records}
use Rattle.sheets.specs.Line.{sheet_line}
use Rattle.sheets.specs.Sheet.{input_lines, path_lines, sheet_text}
use Rattle.sheets.specs.Shown.{sheet_of}

-- the lines of record k of a report of n inputs, and that of input i of a record
abbrev pub lines_at : ℕ → List ℕ → ℕ → List ℕ
lines_at n report k = path_lines (said_at n report k)

abbrev pub line_of_input : (ℕ → Interval) → ℕ → List ℕ
line_of_input f i = sheet_line i (f i).low (f i).high

pub input_lines_lem : (f : ℕ → Interval) (k n : ℕ) → input_lines k (map f (from k n)) ≡ flat_map (line_of_input f) (from k n)
unfolding input_lines flat_map from
input_lines_lem f k zero = refl
input_lines_lem f k (suc n) = rw (add-one k, input_lines_lem f (suc k) n)

-- lines from the words that were read
pub input_is : (i : ℕ) (v : Interval) {low high : ℕ} → low ≡ v.low → high ≡ v.high → sheet_line i low high ≡ sheet_line i v.low v.high
input_is i v l h = rw (l, h)

pub path_is : (s : Said) {number kind reason : ℕ} → number ≡ s.number → kind ≡ s.kind → reason ≡ s.reason
    → sheet_line number kind reason ++ input_lines 0 s.box ≡ path_lines s
unfolding path_lines
path_is s n k r = rw (n, k, r)

-- the records of some paths, numbered from first on
pub sheet_told : {n first : ℕ} {ps : List Path} → Writable n first ps → sheet_text n (records first ps) ≡ sheet_of first ps
sheet_told {n} {first} {ps} w =
    let told = all_told n (first + length ps) [] first ps (omega arith) w.words w.inputs in
    rw (report_records w) (ap (flat_map path_lines) (rw (append-nil (records first ps)) at told))

-- the sheets of pages that follow each other, joined, are the sheet of all their paths
pub sheet_joined : (n : ℕ) (ps qs : List Path) → sheet_of n (ps ++ qs) ≡ sheet_of n ps ++ sheet_of (n + length ps) qs
unfolding said_of_all flat_map
sheet_joined n [] qs = let e : n + 0 ≡ n = omega arith in rw e
sheet_joined n (p ∷ ps) qs =
    let e : n + 1 + length ps ≡ n + suc (length ps) = omega arith in
    rw (sheet_joined (n + 1) ps qs, e, append_assoc)
