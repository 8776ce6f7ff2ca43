-- Document 02's question 12: a lent report, which may come from anywhere, holds records of n inputs.
use Rattle.std.specs.Prelude.{ℕ, ◌%◌, Bool, ◌&&◌, List, map, leb, eqb, length}
use Rattle.boxes.specs.Boxes.{from, every}
use Rattle.blocks.specs.Block.{word_at, checks_agree}
use Rattle.blocks.specs.Layout as layout
use Rattle.blocks.specs.Record.{record_bytes}
use Rattle.blocks.specs.Report.{records_in, record_at}
use Rattle.blocks.specs.Said.{Said, first_said}
use Rattle.calls.specs.Questions.{inputs_fit}

-- the records, in order
abbrev pub records_of : ℕ → List ℕ → List (List ℕ)
records_of n report = map (record_at n report) (from 0 (records_in n report))

-- what they say
abbrev pub all_said : ℕ → List ℕ → List Said
all_said n report = first_said n (records_in n report) report

-- the count in a record's word 4
abbrev pub has_count : ℕ → List ℕ → Bool
has_count n bytes = eqb (word_at bytes layout.inputs) n

-- an input count of 1 to 8, whole records of that count, that count in word 4 of each, and every check right
unfoldable pub readable : ℕ → List ℕ → Bool
readable n report =
    (leb 1 n && inputs_fit n)
    && (eqb (length report % record_bytes n) 0 && (every (has_count n) (records_of n report) && checks_agree report))
