-- A path takes two blocks.
use Rattle.std.specs.Prelude.{ℕ, ◌+◌, ◌-◌, ◌*◌, List, [], ◌∷◌, ◌++◌, length, drop, replicate, slice_index_or}
use mathlib.Core.List.{flat_map}
use Rattle.boxes.specs.Boxes.{Interval, ◌⋯◌, lows, highs}
use Rattle.listing.specs.Listing.{Path}
use Rattle.listing.specs.Numbers.{kind_number, reason_word}
use Rattle.listing.specs.declared.End.{End}
use Rattle.listing.specs.declared.End.TheVariants.{Exit, BadPc, BadWord, BadAddress, BadCall, StepLimit, NotFollowed, TraceFull}
use Rattle.blocks.specs.Block.{word_bytes, block_words, block}
use Rattle.blocks.specs.Layout.{first_places}

-- the size of a record of so many inputs
abbrev pub record_words : ℕ → ℕ
record_words n = 2 * block_words

abbrev pub record_bytes : ℕ → ℕ
record_bytes n = record_words n * word_bytes

-- questions 2 and 12: the most inputs that a job has
abbrev pub most_inputs : ℕ
most_inputs = 8

-- unused inputs are 0
abbrev pub padded : List ℕ → List ℕ
padded ws = ws ++ replicate (first_places - length ws) 0

-- the interval of a register
abbrev pub register_of : Path → ℕ → Interval
register_of p r = slice_index_or p.registers r (0 ⋯ 0)

-- the exit value is register 10; 0 unless kind 1
abbrev pub exit_word : End → ℕ → ℕ
exit_word Exit v = v
exit_word BadPc v = 0
exit_word BadWord v = 0
exit_word BadAddress v = 0
exit_word BadCall v = 0
exit_word StepLimit v = 0
exit_word (NotFollowed r) v = 0
exit_word TraceFull v = 0

abbrev pub exit_of : Path → Interval
exit_of p = exit_word p.end (register_of p 10).low ⋯ exit_word p.end (register_of p 10).high

-- the first block, in the order of its places (Layout): number, kind, pc, steps, input count, lows, highs, low and high of the exit value, reason, inputs read
unfoldable pub first_words : ℕ → Path → List ℕ
first_words n p =
    n ∷ kind_number p.end ∷ p.pc ∷ p.steps ∷ length p.box ∷ (
    padded (lows p.box)
    ++ (padded (highs p.box)
    ++ ((exit_of p).low ∷ (exit_of p).high ∷ reason_word p.end ∷ p.reads ∷ []))
    )

-- low and high of each interval in turn
abbrev pub ends : List Interval → List ℕ
ends vs = flat_map (λ (v : Interval). v.low ∷ v.high ∷ []) vs

-- the second block: number, then low and high of registers 1 to 31
unfoldable pub second_words : ℕ → Path → List ℕ
second_words n p = n ∷ ends (drop 1 p.registers)

unfoldable pub record_of : ℕ → Path → List ℕ
record_of n p = block (first_words n p) ++ block (second_words n p)

-- the records of a list of paths, numbered from n
unfoldable pub records : ℕ → List Path → List ℕ
records n [] = []
records n (p ∷ ps) = record_of n p ++ records (n + 1) ps
