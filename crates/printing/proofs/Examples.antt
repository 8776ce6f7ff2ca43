-- Document 01's output of Job A, byte for byte, and lines of the other forms.
-- Assumes nothing.
use mathlib.Core.Path.{◌≡◌, refl}
use mathlib.Core.Bool.{true, false}
use mathlib.Core.List.{List, [], ◌∷◌, ◌++◌, flat_map}
use Prim.Native.Nat.{ℕ, ◌^◌, ◌-◌}
use lib.ListN.{replicate}
use Rattle.boxes.specs.Boxes.{Box, Interval, ◌⋯◌}
use Rattle.listing.specs.Listing.{Path}
use Rattle.listing.specs.declared.Reason.TheVariants.{Quotients}
use Rattle.listing.specs.declared.End.{End}
use Rattle.listing.specs.declared.End.TheVariants.{Exit, NotFollowed, TraceFull}
use Rattle.blocks.specs.Said.{said_of, said_of_all}
use Rattle.printing.specs.Printed.{ascii, digits_in, digits, field, range, turned_away, first_line, input_text, ending, line, shown}
use Rattle.printing.specs.Shown.{listing_of}

-- a path with this value in register 10
abbrev path : End → ℕ → ℕ → Box → Interval → Path
path e pc steps b v =
    record { end = e; pc = pc; steps = steps; box = b; reads = 1; registers = replicate 10 (0 ⋯ 0) ++ (v ∷ replicate 21 (0 ⋯ 0)) }

abbrev job_a : List Path
job_a = path Exit 28 7 ((0 ⋯ 9) ∷ []) (1 ⋯ 1) ∷ path Exit 28 7 ((10 ⋯ 255) ∷ []) (0 ⋯ 0) ∷ []

job_a_lem : listing_of 0 job_a false
    ≡ ascii "paths 2 more 0\npath 0 end 1 at 28 steps 7 in 0..9 exit 1..1\npath 1 end 1 at 28 steps 7 in 10..255 exit 0..0\n"
unfolding shown said_of_all line first_line field range digits digits_in input_text ending flat_map
job_a_lem = refl

-- a further page, from path 64 on, that is empty
no_path : listing_of 64 [] false ≡ ascii "paths 0 more 0\n"
unfolding shown said_of_all first_line field digits digits_in flat_map
no_path = refl

-- two inputs, the reason of kind 8; `more` is 1 for yes
a_reason : listing_of 3 (path (NotFollowed Quotients) 20 5 ((0 ⋯ (2 ^ 64 - 1)) ∷ (7 ⋯ 7) ∷ []) (8 ⋯ 8) ∷ []) true
    ≡ ascii "paths 1 more 1\npath 3 end 8 at 20 steps 5 in 0..18446744073709551615 in 7..7 reason 5\n"
unfolding shown said_of_all line first_line field range digits digits_in input_text ending flat_map
a_reason = refl

-- no input and neither exit nor reason
a_full_table : line (said_of 0 (path TraceFull 4 1 [] (0 ⋯ 0))) ≡ ascii "path 0 end 9 at 4 steps 1\n"
unfolding line field range digits digits_in input_text ending flat_map
a_full_table = refl

a_refusal : turned_away 11 ≡ ascii "turned away 11\n"
unfolding turned_away field digits digits_in
a_refusal = refl
