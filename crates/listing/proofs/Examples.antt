-- Small jobs with their whole listings, computed by the moves over all the choices of a box. The program host/listings.rs
-- writes this file: what is expected comes from the brute-force oracle there, which knows documents 01 and 02 alone.
-- Assumes nothing.
use mathlib.Core.Path.{◌≡◌, refl}
use mathlib.Core.List.{List, [], ◌∷◌, ◌++◌, map, flat_map}
use Prim.Native.Nat.{ℕ, ◌-◌, ◌^◌}
use lib.ListN.{length, set, replicate}
use Rattle.boxes.specs.Boxes.{Box, Interval, ◌⋯◌, from, width, values, choices, size}
use Rattle.boxes.specs.Boxes.{best, least, greatest, every, same, low, high, fixed}
use Rattle.boxes.specs.Boxes.{keep, classes, hull, piece, pieces}
use Rattle.words.specs.Word.{signed, widen}
use Rattle.riscu.specs.Decode.{rows, search, decode_of}
use Rattle.riscu.specs.Machine.{start, operate, read_next, step, fetch, step_decoded, run}
use Rattle.listing.specs.Group.{Job, after, sort_of, comparison, sorting_of, class_by, class_of}
use Rattle.listing.specs.Ending.{first, operation_points, operand_points, address_points, points}
use Rattle.listing.specs.Ending.{writes, needs, end_at, end_by}
use Rattle.listing.specs.Listing.{Path, path_of, split_by, move_by, move_from, moves, begin, enough, listing}
use Rattle.listing.specs.declared.Reason.TheVariants.{BothOpen, DivisorOpen, Quotients, BaseOpen, CallOpen}
use Rattle.listing.specs.declared.End.{End}
use Rattle.listing.specs.declared.End.TheVariants.{Exit, BadPc, BadWord, BadAddress}
use Rattle.listing.specs.declared.End.TheVariants.{BadCall, StepLimit, NotFollowed, TraceFull}

abbrev top : ℕ
top = 2 ^ 64 - 1

-- the starting registers, but for those listed
abbrev pub registers : List (ℕ × Interval) → List Interval
registers [] = set (replicate 32 (0 ⋯ 0)) 2 (4096 ⋯ 4096)
registers ((r, v) ∷ l) = set (registers l) r v

-- end, pc, steps, box, inputs read, registers
abbrev pub path : End → ℕ → ℕ → Box → ℕ → List (ℕ × Interval) → Path
path e p s b n l = record { end = e; pc = p; steps = s; box = b; reads = n; registers = registers l }

-- a program that reads an input to address 0 and loads it into register 5, does some work, and exits with register 10
abbrev pub reads : List ℕ → List ℕ
reads work =
    (0x03F00893 ∷ 0x00800613 ∷ 0x00000073 ∷ 0x00003283 ∷ []) ++ work ++ (0x05D00893 ∷ 0x00000073 ∷ [])

-- code, the first words of memory (the rest are 0), limit, box and entries; and the listing
abbrev pub example : List ℕ → List ℕ → ℕ → Box → ℕ → List Path → Job × List Path
example c m l b n ps =
    (record { code = c; memory = m ++ replicate (512 - length m) 0; limit = l; box = b; entries = n }, ps)

-- the ending order and the fork rules; each is broken by a must-fail edit
abbrev pub rules : List (Job × List Path)
rules =
    -- SLTU with the open operand first
    example (reads (0x00A00313 ∷ 0x0062B533 ∷ []))
    [] 20 ((5 ⋯ 14) ∷ []) 40
    (path Exit 28 7 ((5 ⋯ 9) ∷ []) 1 ((5, 5 ⋯ 9) ∷ (6, 10 ⋯ 10) ∷ (10, 1 ⋯ 1) ∷ (12, 8 ⋯ 8) ∷ (17, 93 ⋯ 93) ∷ [])
    ∷ path Exit 28 7 ((10 ⋯ 14) ∷ []) 1 ((5, 10 ⋯ 14) ∷ (6, 10 ⋯ 10) ∷ (12, 8 ⋯ 8) ∷ (17, 93 ⋯ 93) ∷ [])
    ∷ [])
    -- BEQ with three pieces
    ∷ example (reads (0x00500313 ∷ 0x00628463 ∷ 0x00100513 ∷ []))
    [] 20 ((3 ⋯ 7) ∷ []) 40
    (path Exit 32 8 ((3 ⋯ 4) ∷ []) 1 ((5, 3 ⋯ 4) ∷ (6, 5 ⋯ 5) ∷ (10, 1 ⋯ 1) ∷ (12, 8 ⋯ 8) ∷ (17, 93 ⋯ 93) ∷ [])
    ∷ path Exit 32 7 ((5 ⋯ 5) ∷ []) 1 ((5, 5 ⋯ 5) ∷ (6, 5 ⋯ 5) ∷ (10, 8 ⋯ 8) ∷ (12, 8 ⋯ 8) ∷ (17, 93 ⋯ 93) ∷ [])
    ∷ path Exit 32 8 ((6 ⋯ 7) ∷ []) 1 ((5, 6 ⋯ 7) ∷ (6, 5 ⋯ 5) ∷ (10, 1 ⋯ 1) ∷ (12, 8 ⋯ 8) ∷ (17, 93 ⋯ 93) ∷ [])
    ∷ [])
    -- the limit comes before a bad pc
    ∷ example (0x00100293 ∷ [])
    [] 1 [] 40
    (path StepLimit 4 1 [] 0 ((5, 1 ⋯ 1) ∷ [])
    ∷ [])
    -- 0..10 mod 5
    ∷ example (reads (0x00500313 ∷ 0x0262F533 ∷ []))
    [] 20 ((0 ⋯ 10) ∷ []) 40
    (path (NotFollowed Quotients) 20 5 ((0 ⋯ 10) ∷ []) 1 ((5, 0 ⋯ 10) ∷ (6, 5 ⋯ 5) ∷ (10, 8 ⋯ 8) ∷ (12, 8 ⋯ 8)
    ∷ (17, 63 ⋯ 63) ∷ [])
    ∷ [])
    -- REMU by an open divisor
    ∷ example (reads (0x02507533 ∷ []))
    [] 20 ((0 ⋯ 3) ∷ []) 40
    (path (NotFollowed DivisorOpen) 16 4 ((0 ⋯ 3) ∷ []) 1 ((5, 0 ⋯ 3) ∷ (10, 8 ⋯ 8) ∷ (12, 8 ⋯ 8) ∷ (17, 63 ⋯ 63) ∷ [])
    ∷ [])
    -- REMU by register 0
    ∷ example (reads (0x0202F533 ∷ []))
    [] 20 ((3 ⋯ 6) ∷ []) 40
    (path Exit 24 6 ((3 ⋯ 6) ∷ []) 1 ((5, 3 ⋯ 6) ∷ (10, 3 ⋯ 6) ∷ (12, 8 ⋯ 8) ∷ (17, 93 ⋯ 93) ∷ [])
    ∷ [])
    -- DIVU by 60 does not fork
    ∷ example (reads (0x03C00313 ∷ 0x0262D533 ∷ []))
    [] 20 ((595 ⋯ 604) ∷ []) 40
    (path Exit 28 7 ((595 ⋯ 604) ∷ []) 1 ((5, 595 ⋯ 604) ∷ (6, 60 ⋯ 60) ∷ (10, 9 ⋯ 10) ∷ (12, 8 ⋯ 8) ∷ (17, 93 ⋯ 93)
    ∷ [])
    ∷ [])
    -- MUL by 60, the wrap
    ∷ example (reads (0x03C00313 ∷ 0x02628533 ∷ []))
    [] 20 ((0x444444444444441 ⋯ 0x444444444444448) ∷ []) 40
    (path Exit 28 7 ((0x444444444444441 ⋯ 0x444444444444444) ∷ []) 1 ((5, 0x444444444444441 ⋯ 0x444444444444444)
    ∷ (6, 60 ⋯ 60) ∷ (10, (top - 195) ⋯ (top - 15)) ∷ (12, 8 ⋯ 8) ∷ (17, 93 ⋯ 93) ∷ [])
    ∷ path Exit 28 7 ((0x444444444444445 ⋯ 0x444444444444448) ∷ []) 1 ((5, 0x444444444444445 ⋯ 0x444444444444448)
    ∷ (6, 60 ⋯ 60) ∷ (10, 44 ⋯ 224) ∷ (12, 8 ⋯ 8) ∷ (17, 93 ⋯ 93) ∷ [])
    ∷ [])
    -- ADD of one open register twice
    ∷ example (reads (0x00528533 ∷ []))
    [] 20 ((3 ⋯ 6) ∷ []) 40
    (path (NotFollowed BothOpen) 16 4 ((3 ⋯ 6) ∷ []) 1 ((5, 3 ⋯ 6) ∷ (10, 8 ⋯ 8) ∷ (12, 8 ⋯ 8) ∷ (17, 63 ⋯ 63) ∷ [])
    ∷ [])
    -- BEQ of one open register twice
    ∷ example (reads (0x00528463 ∷ 0x00100513 ∷ []))
    [] 20 ((3 ⋯ 6) ∷ []) 40
    (path Exit 28 6 ((3 ⋯ 6) ∷ []) 1 ((5, 3 ⋯ 6) ∷ (10, 8 ⋯ 8) ∷ (12, 8 ⋯ 8) ∷ (17, 93 ⋯ 93) ∷ [])
    ∷ [])
    ∷ []

-- document 01's plausible slips; BEQ stands above
abbrev pub slips : List (Job × List Path)
slips =
    -- v < 5 tested ten times
    example (reads (0x00500313 ∷ 0x00A00393 ∷ 0x0062B533 ∷ 0xFFF38393 ∷ 0x00038463 ∷ 0xFF5FF06F ∷ []))
    [] 50 ((3 ⋯ 6) ∷ []) 40
    (path Exit 44 46 ((3 ⋯ 4) ∷ []) 1 ((5, 3 ⋯ 4) ∷ (6, 5 ⋯ 5) ∷ (10, 1 ⋯ 1) ∷ (12, 8 ⋯ 8) ∷ (17, 93 ⋯ 93) ∷ [])
    ∷ path Exit 44 46 ((5 ⋯ 6) ∷ []) 1 ((5, 5 ⋯ 6) ∷ (6, 5 ⋯ 5) ∷ (12, 8 ⋯ 8) ∷ (17, 93 ⋯ 93) ∷ [])
    ∷ [])
    -- ADDI wraps: v + 5
    ∷ example (reads (0x00528513 ∷ []))
    [] 20 (((top - 7) ⋯ top) ∷ []) 40
    (path Exit 24 6 (((top - 7) ⋯ (top - 5)) ∷ []) 1 ((5, (top - 7) ⋯ (top - 5)) ∷ (10, (top - 2) ⋯ top) ∷ (12, 8 ⋯ 8)
    ∷ (17, 93 ⋯ 93) ∷ [])
    ∷ path Exit 24 6 (((top - 4) ⋯ top) ∷ []) 1 ((5, (top - 4) ⋯ top) ∷ (10, 0 ⋯ 4) ∷ (12, 8 ⋯ 8) ∷ (17, 93 ⋯ 93) ∷ [])
    ∷ [])
    -- steps are the path's own
    ∷ example (reads (0x00500313 ∷ 0x0062BE33 ∷ 0x000E0863 ∷ 0x00100513 ∷ 0x00200513 ∷ 0x00300513 ∷ []))
    [] 9 ((3 ⋯ 6) ∷ []) 40
    (path StepLimit 36 9 ((3 ⋯ 4) ∷ []) 1 ((5, 3 ⋯ 4) ∷ (6, 5 ⋯ 5) ∷ (10, 2 ⋯ 2) ∷ (12, 8 ⋯ 8) ∷ (17, 63 ⋯ 63)
    ∷ (28, 1 ⋯ 1) ∷ [])
    ∷ path Exit 44 8 ((5 ⋯ 6) ∷ []) 1 ((5, 5 ⋯ 6) ∷ (6, 5 ⋯ 5) ∷ (10, 8 ⋯ 8) ∷ (12, 8 ⋯ 8) ∷ (17, 93 ⋯ 93) ∷ [])
    ∷ [])
    -- inputs read are the path's own
    ∷ example (reads (0x00500313 ∷ 0x0062BE33 ∷ 0x000E0863 ∷ 0x00000513 ∷ 0x00800593 ∷ 0x00000073 ∷ 0x00000513
    ∷ 0x00800593 ∷ 0x00000073 ∷ 0x00803383 ∷ []))
    [] 20 ((3 ⋯ 6) ∷ (8 ⋯ 9) ∷ []) 40
    (path Exit 60 15 ((3 ⋯ 4) ∷ (8 ⋯ 9) ∷ []) 2 ((5, 3 ⋯ 4) ∷ (6, 5 ⋯ 5) ∷ (7, 8 ⋯ 9) ∷ (11, 8 ⋯ 8) ∷ (12, 8 ⋯ 8)
    ∷ (17, 93 ⋯ 93) ∷ (28, 1 ⋯ 1) ∷ [])
    ∷ path Exit 60 12 ((5 ⋯ 6) ∷ (8 ⋯ 9) ∷ []) 2 ((5, 5 ⋯ 6) ∷ (6, 5 ⋯ 5) ∷ (7, 8 ⋯ 9) ∷ (10, 8 ⋯ 8) ∷ (11, 8 ⋯ 8)
    ∷ (12, 8 ⋯ 8) ∷ (17, 93 ⋯ 93) ∷ [])
    ∷ [])
    -- memory is as lent for the next piece
    ∷ example (reads (0x00500313 ∷ 0x0062BE33 ∷ 0x000E0663 ∷ 0x06300393 ∷ 0x00703823 ∷ 0x01003503 ∷ []))
    (0 ∷ 0 ∷ 7 ∷ []) 20 ((3 ⋯ 6) ∷ []) 40
    (path Exit 44 11 ((3 ⋯ 4) ∷ []) 1 ((5, 3 ⋯ 4) ∷ (6, 5 ⋯ 5) ∷ (7, 99 ⋯ 99) ∷ (10, 99 ⋯ 99) ∷ (12, 8 ⋯ 8)
    ∷ (17, 93 ⋯ 93) ∷ (28, 1 ⋯ 1) ∷ [])
    ∷ path Exit 44 9 ((5 ⋯ 6) ∷ []) 1 ((5, 5 ⋯ 6) ∷ (6, 5 ⋯ 5) ∷ (10, 7 ⋯ 7) ∷ (12, 8 ⋯ 8) ∷ (17, 93 ⋯ 93) ∷ [])
    ∷ [])
    -- 3..7 mod 5
    ∷ example (reads (0x00500313 ∷ 0x0262F533 ∷ []))
    [] 20 ((3 ⋯ 7) ∷ []) 40
    (path Exit 28 7 ((3 ⋯ 4) ∷ []) 1 ((5, 3 ⋯ 4) ∷ (6, 5 ⋯ 5) ∷ (10, 3 ⋯ 4) ∷ (12, 8 ⋯ 8) ∷ (17, 93 ⋯ 93) ∷ [])
    ∷ path Exit 28 7 ((5 ⋯ 7) ∷ []) 1 ((5, 5 ⋯ 7) ∷ (6, 5 ⋯ 5) ∷ (10, 0 ⋯ 2) ∷ (12, 8 ⋯ 8) ∷ (17, 93 ⋯ 93) ∷ [])
    ∷ [])
    ∷ []

-- document 01's rules on trial, on smaller boxes
abbrev pub trials : List (Job × List Path)
trials =
    -- the limit before the fork
    example (reads (0x00A00313 ∷ 0x0062B533 ∷ []))
    [] 5 ((5 ⋯ 14) ∷ []) 40
    (path StepLimit 20 5 ((5 ⋯ 14) ∷ []) 1 ((5, 5 ⋯ 14) ∷ (6, 10 ⋯ 10) ∷ (10, 8 ⋯ 8) ∷ (12, 8 ⋯ 8) ∷ (17, 63 ⋯ 63) ∷ [])
    ∷ [])
    -- 10 - v < 1: pieces in order of the input
    ∷ example (reads (0x00A00313 ∷ 0x405303B3 ∷ 0x00100E13 ∷ 0x01C3B533 ∷ []))
    [] 20 ((7 ⋯ 13) ∷ []) 40
    (path Exit 36 9 ((7 ⋯ 9) ∷ []) 1 ((5, 7 ⋯ 9) ∷ (6, 10 ⋯ 10) ∷ (7, 1 ⋯ 3) ∷ (12, 8 ⋯ 8) ∷ (17, 93 ⋯ 93) ∷ (28, 1 ⋯ 1)
    ∷ [])
    ∷ path Exit 36 9 ((10 ⋯ 10) ∷ []) 1 ((5, 10 ⋯ 10) ∷ (6, 10 ⋯ 10) ∷ (10, 1 ⋯ 1) ∷ (12, 8 ⋯ 8) ∷ (17, 93 ⋯ 93)
    ∷ (28, 1 ⋯ 1) ∷ [])
    ∷ path Exit 36 9 ((11 ⋯ 13) ∷ []) 1 ((5, 11 ⋯ 13) ∷ (6, 10 ⋯ 10) ∷ (7, (top - 2) ⋯ top) ∷ (12, 8 ⋯ 8)
    ∷ (17, 93 ⋯ 93) ∷ (28, 1 ⋯ 1) ∷ [])
    ∷ [])
    -- one entry: a register write
    ∷ example (reads (0x00A00313 ∷ 0x0062B533 ∷ []))
    [] 20 ((5 ⋯ 14) ∷ []) 1
    (path TraceFull 4 1 ((5 ⋯ 14) ∷ []) 0 ((17, 63 ⋯ 63) ∷ [])
    ∷ [])
    ∷ []

-- the other kinds and reasons
abbrev pub ends : List (Job × List Path)
ends =
    -- pc runs beyond the code
    example (0x00100293 ∷ [])
    [] 20 [] 40
    (path BadPc 4 1 [] 0 ((5, 1 ⋯ 1) ∷ [])
    ∷ [])
    -- a word of no row
    ∷ example (0x00100293 ∷ 0x00000000 ∷ [])
    [] 20 [] 40
    (path BadWord 4 1 [] 0 ((5, 1 ⋯ 1) ∷ [])
    ∷ [])
    -- LD from an address that is no multiple of 8
    ∷ example (0x00C03283 ∷ [])
    [] 20 [] 40
    (path BadAddress 0 0 [] 0 []
    ∷ [])
    -- read of 4 bytes
    ∷ example (0x03F00893 ∷ 0x00400613 ∷ 0x00000073 ∷ [])
    [] 20 ((3 ⋯ 6) ∷ []) 40
    (path BadCall 8 2 ((3 ⋯ 6) ∷ []) 0 ((12, 4 ⋯ 4) ∷ (17, 63 ⋯ 63) ∷ [])
    ∷ [])
    -- LD with an open base
    ∷ example (reads (0x0042B503 ∷ []))
    [] 20 ((0 ⋯ 3) ∷ []) 40
    (path (NotFollowed BaseOpen) 16 4 ((0 ⋯ 3) ∷ []) 1 ((5, 0 ⋯ 3) ∷ (10, 8 ⋯ 8) ∷ (12, 8 ⋯ 8) ∷ (17, 63 ⋯ 63) ∷ [])
    ∷ [])
    -- an open call number
    ∷ example (reads (0x00028893 ∷ 0x00000073 ∷ []))
    [] 20 ((62 ⋯ 64) ∷ []) 40
    (path (NotFollowed CallOpen) 20 5 ((62 ⋯ 64) ∷ []) 1 ((5, 62 ⋯ 64) ∷ (10, 8 ⋯ 8) ∷ (12, 8 ⋯ 8) ∷ (17, 62 ⋯ 64) ∷ [])
    ∷ [])
    ∷ []

-- document 02, Nos. 1 and 3
abbrev pub zeros : List (Job × List Path)
zeros =
    -- SUB of one open register twice
    example (reads (0x40528533 ∷ []))
    [] 20 ((3 ⋯ 6) ∷ []) 40
    (path Exit 24 6 ((3 ⋯ 6) ∷ []) 1 ((5, 3 ⋯ 6) ∷ (12, 8 ⋯ 8) ∷ (17, 93 ⋯ 93) ∷ [])
    ∷ [])
    -- DIVU by register 0
    ∷ example (reads (0x0202D533 ∷ []))
    [] 20 ((3 ⋯ 6) ∷ []) 40
    (path Exit 24 6 ((3 ⋯ 6) ∷ []) 1 ((5, 3 ⋯ 6) ∷ (10, top ⋯ top) ∷ (12, 8 ⋯ 8) ∷ (17, 93 ⋯ 93) ∷ [])
    ∷ [])
    ∷ []

abbrev pub table : List (Job × List Path)
table =
    rules
    ++ slips
    ++ trials
    ++ ends
    ++ zeros

abbrev listed : Job × List Path → List Path
listed x = listing x.0

abbrev expected : Job × List Path → List Path
expected x = x.1

-- the whole table, by one computation
pub examples_right : map listed table ≡ map expected table
unfolding listing enough moves move_from move_by split_by path_of begin
    end_by end_at needs writes points address_points operand_points operation_points first
    from width values choices flat_map size best least greatest every same low high fixed keep classes hull piece pieces
    class_of class_by sorting_of sort_of comparison after run step_decoded fetch step read_next operate start decode_of search rows signed widen
examples_right = refl
