-- Document 01's Job A in blocks is read as it stands there, and changes of it are refused. Assumes nothing.
use mathlib.Core.Path.{◌≡◌, refl}
use mathlib.Core.List.{List, [], ◌∷◌, ◌++◌, flat_map}
use Prim.Native.Nat.{ℕ, ◌+◌, ◌*◌, ◌^◌}
use lib.ListN.{set, drop, replicate}
use Rattle.boxes.specs.Boxes.{from}
use Rattle.blocks.specs.Block.{bytes_of, number_of, check_from, block, each, checks_agree}
use Rattle.listing.specs.First.{first}
use Rattle.calls.specs.Call.{box_of}
use Rattle.calls.specs.Questions.{in_order}
use Rattle.calls.specs.Border.{refused_number}
use Rattle.jobs.specs.Job.{payload_at, code_at, interval_at, code_in, intervals_in, memory_in, job_read, whole_blocks, zero_words, zero_halves, unused_zero, well_formed, header_questions, job_questions, job_refusal_of}

unfoldable pub header : List ℕ
header = 1 ∷ 8 ∷ 1 ∷ 100 ∷ 0 ∷ 0 ∷ 0 ∷ 0 ∷ 0 ∷ 0 ∷ 0 ∷ 0 ∷ 0 ∷ 255 ∷ replicate 8 0

unfoldable pub code : List ℕ
code = 0x03F00893 ∷ 0x00800613 ∷ 0x00000073 ∷ 0x00003283 ∷ 0x00A00313 ∷ 0x0062B533 ∷ 0x05D00893 ∷ 0x00000073 ∷ []

unfoldable pub words : List ℕ
words =
    (0x03F00893 + 0x00800613 * 2 ^ 32)
    ∷ (0x00000073 + 0x00003283 * 2 ^ 32)
    ∷ (0x00A00313 + 0x0062B533 * 2 ^ 32)
    ∷ (0x05D00893 + 0x00000073 * 2 ^ 32)
    ∷ []

-- Job A with one other word in its header, and with two
unfoldable pub changed : ℕ → ℕ → List ℕ
changed k v = block (set header k v) ++ block words

unfoldable pub changed_twice : ℕ → ℕ → ℕ → ℕ → List ℕ
changed_twice k v l w = block (set (set header k v) l w) ++ block words

-- the number that a job is refused with, or 0
unfoldable pub answer : List ℕ → ℕ
answer bytes = refused_number (job_refusal_of bytes)

unfoldable pub answers : List ℕ
answers =
    answer (changed 0 1)
    ∷ answer (drop 1 (changed 0 1))
    ∷ answer (set (changed 0 1) 300 1)
    ∷ answer (changed 1 0)
    ∷ answer (changed 2 9)
    ∷ answer (changed 5 256)
    ∷ answer (changed 3 0)
    ∷ answer (changed 21 513)
    ∷ answer (changed 4 (2 ^ 32))
    ∷ answer (changed 0 2)
    ∷ answer (changed 1 7)
    ∷ answer (changed 6 1)
    ∷ answer (changed 0 1 ++ block [])
    -- two noes, of two questions that follow one another
    ∷ answer (drop 1 (set (changed 0 1) 300 1))
    ∷ answer (set (changed 1 0) 300 1)
    ∷ answer (changed_twice 1 0 2 9)
    ∷ answer (changed_twice 2 9 5 256)
    ∷ answer (changed_twice 5 256 3 0)
    ∷ answer (changed_twice 3 0 21 513)
    ∷ answer (changed_twice 21 513 4 (2 ^ 32))
    ∷ answer (changed_twice 4 (2 ^ 32) 0 2)
    ∷ []

pub job_a_answers : answers ≡ 0 ∷ 9 ∷ 10 ∷ 1 ∷ 2 ∷ 3 ∷ 4 ∷ 6 ∷ 8 ∷ 11 ∷ 11 ∷ 11 ∷ 11 ∷ 9 ∷ 10 ∷ 1 ∷ 2 ∷ 3 ∷ 4 ∷ 6 ∷ 8 ∷ []
unfolding answers answer changed changed_twice header words job_questions header_questions first whole_blocks checks_agree each check_from bytes_of number_of block in_order box_of intervals_in interval_at well_formed unused_zero zero_words zero_halves payload_at code_at from flat_map
job_a_answers = refl

pub job_a_read : job_read (block header ++ block words) ≡ record { code = code; intervals = 0 ∷ 255 ∷ []; limit = 100; first = 0; memory = replicate 512 0 }
unfolding header words code job_read code_in intervals_in memory_in interval_at payload_at code_at from block bytes_of number_of check_from flat_map
job_a_read = refl
