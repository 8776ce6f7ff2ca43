-- The questions at the door: each is a test with the refusal that its no gives, and the first no decides. The tests are over numbers, so
-- that the exploration, the reader of jobs and the writer of jobs ask the same.
use Rattle.std.specs.Prelude.{ℕ, ◌/◌, ◌%◌, Bool, true, false, not, ◌&&◌, List, [], ◌∷◌, ◌≡◌, ltb, leb, eqb}
use Rattle.boxes.specs.Boxes.{Box, ◌∈◌}
use Rattle.listing.specs.First.{Case, ◌⇒◌}
use Rattle.riscu.specs.Limits.{code_words, memory_words}
use Rattle.blocks.specs.Record.{most_inputs}
use Rattle.calls.specs.Limits.{most_steps, entry_words, first_end}
use Rattle.calls.specs.declared.Refusal.{Refusal}
use Rattle.calls.specs.declared.Refusal.TheVariants.{Code, Inputs, Order, Limit, Table, Memory, Report, First}
use Rattle.calls.specs.declared.Refusal.TheVariants.{Blocks, Check, Form, Records, Rows, Space, Size, Paths}

-- The papers' number of each refusal: 1 to 11 are document 01's, the others document 02's (Nos. 2, 6, 7 and 8).
abbrev pub number : Refusal → ℕ
number Code = 1
number Inputs = 2
number Order = 3
number Limit = 4
number Table = 5
number Memory = 6
number Report = 7
number First = 8
number Blocks = 9
number Check = 10
number Form = 11
number Records = 12
number Rows = 13
number Space = 14
number Size = 15
number Paths = 16

-- a question: the case of its no
abbrev pub Question : Type 0
Question = Case Refusal

infix 5 ◌otherwise◌
abbrev pub ◌otherwise◌ : Bool → Refusal → Question
test otherwise r = not test ⇒ r

abbrev pub Yes : Question → Type 0
Yes q = q.applies ≡ false

abbrev pub No : Question → Type 0
No q = q.applies ≡ true

abbrev pub AllYes : List Question → Type 0
AllYes qs = (q : Question) → q ∈ qs → Yes q

-- 1: is the code 1 to 1,024 words?
abbrev pub code_fits : ℕ → Bool
code_fits words = leb 1 words && leb words code_words

-- 2: whole pairs, at most 8 inputs?
abbrev pub whole_pairs : ℕ → Bool
whole_pairs words = eqb (words % 2) 0

abbrev pub inputs_fit : ℕ → Bool
inputs_fit inputs = leb inputs most_inputs

abbrev pub intervals_fit : ℕ → Bool
intervals_fit words = whole_pairs words && inputs_fit (words / 2)

-- 3: is each low at most its high?
unfoldable pub in_order : Box → Bool
in_order [] = true
in_order (v ∷ b) = leb v.low v.high && in_order b

-- 4: is the step limit 1 to 65,536?
abbrev pub limit_fits : ℕ → Bool
limit_fits limit = leb 1 limit && leb limit most_steps

-- 5: has the table at least 8 words?
abbrev pub table_fits : ℕ → Bool
table_fits words = leb entry_words words

-- 6: is memory exactly 512 words?
abbrev pub memory_fits : ℕ → Bool
memory_fits words = eqb words memory_words

-- 7: is the report whole records of this size, and not empty?
abbrev pub report_fits : ℕ → ℕ → Bool
report_fits record_size bytes = eqb (bytes % record_size) 0 && leb 1 bytes

-- 8: is the first path wanted below 2^32?
abbrev pub first_fits : ℕ → Bool
first_fits path = ltb path first_end

-- 14: is the lent space at least as long as what is to be written?
abbrev pub space_fits : ℕ → ℕ → Bool
space_fits needed bytes = leb needed bytes
