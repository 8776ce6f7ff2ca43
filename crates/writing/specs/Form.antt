-- Document 02, No. 8: the writer's form of a job. Each word stands where the reader's definitions have it (jobs/Header, jobs/Job).
use Rattle.std.specs.Prelude.{ℕ, suc, ◌+◌, ◌*◌, ◌/◌, ◌^◌, cond, ◌&&◌, eqb, length, get_or, set, take, drop, replicate}
use mathlib.Core.List.{List, [], ◌∷◌, ◌++◌, map, flat_map}
use Rattle.boxes.specs.Boxes.{Box, from}
use Rattle.blocks.specs.Block.{block_bytes, payload_words, block}
use Rattle.calls.specs.Call.{box_of}
use Rattle.jobs.specs.Header as header
use Rattle.jobs.specs.Job.{JobRead, code_payload, blocks_for, blocks_needed}

-- how many memory words are given: trailing zero memory words are not written
unfoldable pub given_of : List ℕ → ℕ
given_of [] = 0
given_of (w ∷ ws) = let n = given_of ws in cond (eqb n 0 && eqb w 0) 0 (suc n)

-- how many inputs there are
abbrev pub inputs_of : JobRead → ℕ
inputs_of j = length j.intervals / 2

-- one word stored in its place, and one store after another

abbrev stored : ℕ → ℕ → List ℕ → List ℕ
stored place w ws = set ws place w

infixl 20 ◌▹◌
abbrev ◌▹◌ : List ℕ → (List ℕ → List ℕ) → List ℕ
ws ▹ f = f ws

-- the low and the high of each input from the i-th on, in the header of a job of n inputs
unfoldable pub stored_inputs : ℕ → ℕ → Box → List ℕ → List ℕ
stored_inputs n i [] ws = ws
stored_inputs n i (v ∷ b) ws =
    stored_inputs n (suc i) b (ws ▹ stored (header.low_at n i) v.low ▹ stored (header.high_at n i) v.high)

-- the words of the header, each in its place; the rest are 0
unfoldable pub header_words : JobRead → List ℕ
header_words j =
    replicate payload_words 0
    ▹ stored header.mark header.mark_word
    ▹ stored header.code (length j.code)
    ▹ stored header.inputs (inputs_of j)
    ▹ stored header.limit j.limit
    ▹ stored header.first j.first
    ▹ stored header.given (given_of j.memory)
    ▹ stored_inputs (inputs_of j) 0 (box_of j.intervals)

-- two code words per payload word, low half first
abbrev pub code_pair : List ℕ → ℕ → ℕ
code_pair code i = get_or code (2 * i) 0 + 2 ^ 32 * get_or code (2 * i + 1) 0

unfoldable pub code_pairs : List ℕ → List ℕ
code_pairs code = map (code_pair code) (from 0 (code_payload (length code)))

-- the memory words given
abbrev pub given_words : List ℕ → List ℕ
given_words memory = take (given_of memory) memory

-- the blocks of a part: 63 of its words each, as few as hold them
abbrev pub part_block : List ℕ → ℕ → List ℕ
part_block ws b = block (take payload_words (drop (b * payload_words) ws))

unfoldable pub part_blocks : List ℕ → List ℕ
part_blocks ws = flat_map (part_block ws) (from 0 (blocks_for (length ws)))

-- the header block, the code blocks, then the memory blocks
unfoldable pub job_form : JobRead → List ℕ
job_form j = block (header_words j) ++ (part_blocks (code_pairs j.code) ++ part_blocks (given_words j.memory))

-- its length, known before a byte is written
abbrev pub form_length : JobRead → ℕ
form_length j = block_bytes * blocks_needed (inputs_of j) (length j.code) (given_of j.memory)
