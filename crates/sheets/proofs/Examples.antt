-- Document 02's sentences on small reports, with what the oracle gives (host/oracle_test.rs has the same).
-- Assumes nothing.
use mathlib.Core.Path.{◌≡◌, refl}
use mathlib.Core.List.{List, [], ◌∷◌, ◌++◌, flat_map}
use Prim.Native.Nat.{ℕ}
use lib.ListN.{length, set, drop, replicate}
use Rattle.boxes.specs.Boxes.{Interval, ◌⋯◌, from, every}
use Rattle.listing.specs.Listing.{Path}
use Rattle.listing.specs.declared.End.TheVariants.{Exit}
use Rattle.words.specs.Word.{max_word}
use Rattle.blocks.specs.Block.{bytes_of, number_of, check_from, block, each, checks_agree}
use Rattle.blocks.specs.Layout.{low_at, high_at}
use Rattle.blocks.specs.Record.{padded, first_words, second_words, record_of, records}
use Rattle.listing.specs.First.{first}
use Rattle.calls.specs.Border.{refused_number}
use Rattle.calls.specs.Done.{done_by, refusal_from}
use Rattle.printing.specs.Printed.{ascii, digits_in, digits}
use Rattle.reports.specs.Readable.{readable}
use Rattle.sheets.specs.Line.{sheet_field, columns, sheet_line}
use Rattle.sheets.specs.Sheet.{input_lines, path_lines, sheet_length, sheet_call_of, sheet_questions, printed}

-- a record with this number, kind and reason, and these lows and highs
abbrev record_with : ℕ → ℕ → ℕ → List ℕ → List ℕ → List ℕ
record_with number kind reason lows highs =
    block (number ∷ kind ∷ 7 ∷ 7 ∷ length lows ∷ (padded lows ++ (padded highs ++ 7 ∷ 7 ∷ reason ∷ []))) ++ block []

abbrev path : Interval → Path
path v = record { end = Exit; pc = 28; steps = 7; box = v ∷ []; reads = 1; registers = replicate 32 (0 ⋯ 0) }

abbrev one : List ℕ
one = record_with 1 1 0 (10 ∷ []) (255 ∷ [])

-- the answer's number, and what a sheet of so many bytes, which came with # in each, then holds
unfoldable on : ℕ → List ℕ → ℕ → List ℕ
on n report bytes =
    let l = printed (sheet_call_of n report (replicate bytes 35)) in
    refused_number (refusal_from l.answer) ∷ l.list

unfoldable accepted : List (List ℕ)
accepted =
    -- the two paths of Job A, as a call writes them
    on 1 (records 0 (path (0 ⋯ 9) ∷ path (10 ⋯ 255) ∷ [])) 292
    -- MAX in every field, and 0
    ∷ on 1 (record_with max_word max_word max_word (max_word ∷ []) (max_word ∷ [])) 146
    ∷ on 1 (record_with 0 0 0 (0 ∷ []) (0 ∷ [])) 146
    -- eight inputs
    ∷ on 8 (record_with 12345 9 0 (0 ∷ 9 ∷ 99 ∷ 999 ∷ 12345 ∷ 1000000000 ∷ 1000000000000000000 ∷ 10000000000000000000 ∷ []) (1 ∷ 10 ∷ 100 ∷ 1000 ∷ 67890 ∷ 10000000000 ∷ 9999999999999999999 ∷ max_word ∷ [])) 657
    -- a path with a reason, and one without
    ∷ on 2 (record_with 7 8 5 (0 ∷ 3600 ∷ []) (9 ∷ max_word ∷ []) ++ record_with 3 1 0 (10 ∷ 0 ∷ []) (10 ∷ 3599 ∷ [])) 438
    -- a foreign record's words as they stand: a reason with kind 1, and a low above its high
    ∷ on 1 (record_with 10000000000000000000 1 9 (20 ∷ []) (10 ∷ [])) 146
    -- a longer sheet, and no record
    ∷ on 1 one 148
    ∷ on 3 [] 0
    ∷ on 3 [] 3
    ∷ []

sheets_printed : accepted
    ≡ (0 ∷ ascii "                   0                      1                       0     \n                   0                      0                       9     \n                   1                      1                       0     \n                   0                     10                     255     \n")
    ∷ (0 ∷ ascii "18446744073709551615   18446744073709551615    18446744073709551615     \n                   0   18446744073709551615    18446744073709551615     \n")
    ∷ (0 ∷ ascii "                   0                      0                       0     \n                   0                      0                       0     \n")
    ∷ (0 ∷ ascii "               12345                      9                       0     \n                   0                      0                       1     \n                   1                      9                      10     \n                   2                     99                     100     \n                   3                    999                    1000     \n                   4                  12345                   67890     \n                   5             1000000000             10000000000     \n                   6    1000000000000000000     9999999999999999999     \n                   7   10000000000000000000    18446744073709551615     \n")
    ∷ (0 ∷ ascii "                   7                      8                       5     \n                   0                      0                       9     \n                   1                   3600    18446744073709551615     \n                   3                      1                       0     \n                   0                     10                      10     \n                   1                      0                    3599     \n")
    ∷ (0 ∷ ascii "10000000000000000000                      1                       9     \n                   0                     20                      10     \n")
    ∷ (0 ∷ ascii "                   1                      1                       0     \n                   0                     10                     255     \n##")
    ∷ (0 ∷ [])
    ∷ (0 ∷ ascii "###")
    ∷ []
unfolding accepted records record_of first_words second_words on done_by sheet_questions first readable every each checks_agree check_from number_of bytes_of block low_at high_at from flat_map path_lines input_lines sheet_line columns sheet_field digits digits_in
sheets_printed = refl

unfoldable refused : List (List ℕ)
refused =
    -- 14: one byte too few, and all of them
    on 1 one 145
    ∷ on 1 one 0
    -- 12, asked first: input counts, a byte too few, a changed byte
    ∷ on 0 [] 145
    ∷ on 2 one 145
    ∷ on 1 (drop 1 one) 145
    ∷ on 1 (set one 1023 99) 145
    -- and on a sheet that is long enough
    ∷ on 0 [] 146
    ∷ on 2 one 146
    ∷ on 1 (drop 1 one) 146
    ∷ on 1 (set one 1023 99) 146
    ∷ []

sheets_refused : refused
    ≡ (14 ∷ replicate 145 35)
    ∷ (14 ∷ [])
    ∷ (12 ∷ replicate 145 35)
    ∷ (12 ∷ replicate 145 35)
    ∷ (12 ∷ replicate 145 35)
    ∷ (12 ∷ replicate 145 35)
    ∷ (12 ∷ replicate 146 35)
    ∷ (12 ∷ replicate 146 35)
    ∷ (12 ∷ replicate 146 35)
    ∷ (12 ∷ replicate 146 35)
    ∷ []
unfolding refused on done_by sheet_questions first readable every each checks_agree check_from number_of bytes_of block low_at high_at from flat_map path_lines input_lines sheet_line columns sheet_field digits digits_in
sheets_refused = refl

-- a part of a record does not count; the last is the longest of 14 inputs that is a word
lengths : sheet_length 1 0
    ∷ sheet_length 1 1023
    ∷ sheet_length 1 1024
    ∷ sheet_length 2 4095
    ∷ sheet_length 8 65536
    ∷ sheet_length 0 1024
    ∷ sheet_length 8 18446744073709551615
    ∷ sheet_length 13 18446744073709551615
    ∷ sheet_length 14 17250653818701900799 ∷ []
    ≡ 0 ∷ 0 ∷ 146 ∷ 657 ∷ 42048 ∷ 73 ∷ 11835459820729662831 ∷ 18410715276690586626 ∷ 18446744073709551030 ∷ []
lengths = refl
