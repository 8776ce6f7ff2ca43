-- Document 02's sentences on small reports from outside, with the answers that the oracle gives (host/oracle_test.rs has the same).
-- Assumes nothing.
use mathlib.Core.Path.{◌≡◌, refl}
use mathlib.Core.List.{List, [], ◌∷◌, ◌++◌, flat_map}
use Prim.Native.Nat.{ℕ}
use lib.ListN.{set, drop, replicate}
use Rattle.boxes.specs.Boxes.{Interval, ◌⋯◌, from, every}
use Rattle.listing.specs.Listing.{Path}
use Rattle.listing.specs.declared.End.TheVariants.{Exit}
use Rattle.blocks.specs.Block.{bytes_of, number_of, check_from, block, each, checks_agree}
use Rattle.blocks.specs.Layout.{low_at, high_at}
use Rattle.blocks.specs.Record.{padded, first_words, second_words, record_of, records}
use Rattle.listing.specs.First.{first}
use Rattle.calls.specs.Border.{refused_number}
use Rattle.calls.specs.Done.{done_by, refusal_from}
use Rattle.reports.specs.Readable.{readable}
use Rattle.reports.specs.Placing.{is_inside, placing, no_path, place_call_of, place_questions, placed}

-- a record with this path number, input count, lows and highs
abbrev record_with : ℕ → ℕ → List ℕ → List ℕ → List ℕ
record_with number count lows highs = block (number ∷ 1 ∷ 0 ∷ 0 ∷ count ∷ (padded lows ++ padded highs)) ++ block []

-- the answer's number, and what the list for the answers, which came with 5 in each place, then holds
unfoldable answer : ℕ → List ℕ → List ℕ → ℕ → List ℕ
answer n report rows answers =
    let l = placed (place_call_of n report rows (replicate answers 5)) in
    refused_number (refusal_from l.answer) ∷ l.list

-- 0..9 under number 7, and 5..20 under number 3
abbrev overlapping : List ℕ
overlapping = record_with 7 1 (0 ∷ []) (9 ∷ []) ++ record_with 3 1 (5 ∷ []) (20 ∷ [])

-- two inputs; the last interval reaches MAX, and an interval whose low is above its high holds nothing
abbrev two_inputs : List ℕ
two_inputs =
    record_with 4 2 (0 ∷ 6 ∷ []) (9 ∷ 5 ∷ []) ++ record_with 0 2 (0 ∷ 5 ∷ []) (9 ∷ 5 ∷ []) ++ record_with 1 2 (0 ∷ 6 ∷ []) (9 ∷ no_path ∷ [])

abbrev eight : List ℕ
eight = 0 ∷ 1 ∷ 2 ∷ 3 ∷ 4 ∷ 5 ∷ 6 ∷ 7 ∷ []

abbrev path : Interval → Path
path v = record { end = Exit; pc = 28; steps = 7; box = v ∷ []; reads = 1; registers = replicate 32 (0 ⋯ 0) }

unfoldable accepted : List (List ℕ)
accepted =
    answer 1 overlapping (0 ∷ 5 ∷ 9 ∷ 10 ∷ 20 ∷ 21 ∷ []) 6
    ∷ answer 1 (drop 1024 overlapping) (9 ∷ 4 ∷ []) 2
    ∷ answer 2 two_inputs (9 ∷ 5 ∷ 9 ∷ 6 ∷ 10 ∷ 5 ∷ 0 ∷ 4 ∷ 3 ∷ no_path ∷ []) 5
    -- eight inputs, each of one value
    ∷ answer 8 (record_with 6 8 eight eight) (eight ++ 0 ∷ 1 ∷ 2 ∷ 3 ∷ 4 ∷ 5 ∷ 6 ∷ 8 ∷ []) 2
    -- the two paths of Job A, as a call writes them
    ∷ answer 1 (records 0 (path (0 ⋯ 9) ∷ path (10 ⋯ 255) ∷ [])) (0 ∷ 9 ∷ 10 ∷ 255 ∷ 256 ∷ []) 5
    -- no record, as many rows as there may be, and no row
    ∷ answer 3 [] (1 ∷ 2 ∷ 3 ∷ []) 1
    ∷ answer 1 [] (replicate 1024 0) 1024
    ∷ answer 1 overlapping [] 0
    ∷ []

rows_placed : accepted
    ≡ (0 ∷ 7 ∷ 7 ∷ 7 ∷ 3 ∷ 3 ∷ no_path ∷ [])
    ∷ (0 ∷ 3 ∷ no_path ∷ [])
    ∷ (0 ∷ 0 ∷ 1 ∷ no_path ∷ no_path ∷ 1 ∷ [])
    ∷ (0 ∷ 6 ∷ no_path ∷ [])
    ∷ (0 ∷ 0 ∷ 0 ∷ 1 ∷ 1 ∷ no_path ∷ [])
    ∷ (0 ∷ no_path ∷ [])
    ∷ (0 ∷ replicate 1024 no_path)
    ∷ (0 ∷ [])
    ∷ []
unfolding accepted answer records record_of first_words second_words done_by place_questions first readable placing is_inside every each checks_agree check_from number_of bytes_of block low_at high_at from flat_map
rows_placed = refl

unfoldable refused : List (List ℕ)
refused =
    -- 12: input counts, a byte too few, a record of another count, a changed byte in either block of the last record
    answer 0 [] [] 0
    ∷ answer 9 [] [] 0
    ∷ answer 1 (drop 1 overlapping) (0 ∷ []) 1
    ∷ answer 2 overlapping (0 ∷ 0 ∷ []) 1
    ∷ answer 1 (overlapping ++ two_inputs) (0 ∷ []) 1
    ∷ answer 1 (set overlapping 1324 1) (0 ∷ []) 1
    ∷ answer 1 (set overlapping 1836 1) (0 ∷ []) 1
    -- 13: not whole rows, too many, one answer too few and one too many
    ∷ answer 2 two_inputs (9 ∷ 5 ∷ 9 ∷ []) 1
    ∷ answer 1 [] (replicate 1025 0) 0
    ∷ answer 1 overlapping (0 ∷ 1 ∷ []) 1
    ∷ answer 1 overlapping [] 1
    -- both: 12 is asked first
    ∷ answer 1 (set overlapping 300 1) (0 ∷ 1 ∷ []) 1
    ∷ []

rows_refused : refused
    ≡ (12 ∷ []) ∷ (12 ∷ []) ∷ (12 ∷ 5 ∷ []) ∷ (12 ∷ 5 ∷ []) ∷ (12 ∷ 5 ∷ []) ∷ (12 ∷ 5 ∷ []) ∷ (12 ∷ 5 ∷ [])
    ∷ (13 ∷ 5 ∷ []) ∷ (13 ∷ []) ∷ (13 ∷ 5 ∷ []) ∷ (13 ∷ 5 ∷ [])
    ∷ (12 ∷ 5 ∷ [])
    ∷ []
unfolding refused answer done_by place_questions first readable placing is_inside every each checks_agree check_from number_of bytes_of block low_at high_at from flat_map
rows_refused = refl
