-- Jobs in the writer's form and refused calls, computed; what they should be was worked out by another program from the papers. Assumes nothing.
use mathlib.Core.Path.{◌≡◌, refl}
use mathlib.Core.Bool.{cond}
use mathlib.Core.List.{List, [], ◌∷◌, ◌++◌, flat_map}
use Prim.Native.Nat.{ℕ, ◌-◌, ◌*◌, ◌^◌}
use lib.Dec.{eqb}
use lib.ListN.{set, replicate}
use Rattle.boxes.specs.Boxes.{from}
use Rattle.riscu.specs.Limits.{code_words, memory_words}
use Rattle.listing.specs.First.{first}
use Rattle.blocks.specs.Block.{block_bytes, block_words, bytes_of, number_of, word_at, check_from, block, block_count}
use Rattle.calls.specs.Call.{box_of}
use Rattle.calls.specs.Done.{done_by}
use Rattle.calls.specs.Questions.{in_order}
use Rattle.jobs.specs.Job.{JobRead, most_blocks}
use Rattle.jobs.proofs.Examples.{code}
use Rattle.writing.specs.Form.{given_of, stored_inputs, header_words, code_pairs, part_blocks, job_form, form_length}
use Rattle.writing.specs.Write.{values_of, write_call_of, value_questions, job_written, write_outcome}

-- the words of a job that are not 0, each behind its place
unfoldable pub shown_at : List ℕ → ℕ → List ℕ
shown_at bytes k = cond (eqb (word_at bytes k) 0) [] (k ∷ word_at bytes k ∷ [])

unfoldable pub shown : JobRead → List ℕ
shown j = flat_map (shown_at (job_form j)) (from 0 (block_words * block_count (job_form j)))

unfoldable pub zeros : List ℕ
zeros = replicate memory_words 0

-- Job A; an odd code, with a zero word in the middle of memory; two code blocks and two memory blocks, all inputs
unfoldable pub jobs : List (List ℕ)
jobs =
    shown (values_of code zeros (0 ∷ 255 ∷ []) 100 0)
    ∷ shown (values_of (7 ∷ 8 ∷ 9 ∷ []) (set (set zeros 1 5) 3 (2 ^ 64 - 1)) (1 ∷ 2 ∷ 3 ∷ (2 ^ 64 - 1) ∷ []) 65536 (2 ^ 32 - 1))
    ∷ shown (values_of (replicate 125 0 ++ 7 ∷ 8 ∷ []) (set (set zeros 0 6) 63 6) (1 ∷ 11 ∷ 2 ∷ 12 ∷ 3 ∷ 13 ∷ 4 ∷ 14 ∷ 5 ∷ 15 ∷ 6 ∷ 16 ∷ 7 ∷ 17 ∷ 8 ∷ 18 ∷ []) 9 10)
    ∷ []

pub jobs_right : jobs
    ≡ (0 ∷ 1 ∷ 1 ∷ 8 ∷ 2 ∷ 1 ∷ 3 ∷ 100 ∷ 13 ∷ 255 ∷ 63 ∷ 17437374807225139204
    ∷ 64 ∷ 36035475759171731 ∷ 65 ∷ 55538222104691 ∷ 66 ∷ 27783778376090387 ∷ 67 ∷ 494018758803 ∷ 127 ∷ 7504742092748653225 ∷ [])
    ∷ (0 ∷ 1 ∷ 1 ∷ 3 ∷ 2 ∷ 2 ∷ 3 ∷ 65536 ∷ 4 ∷ 4294967295 ∷ 5 ∷ 1 ∷ 6 ∷ 3 ∷ 13 ∷ 2 ∷ 14 ∷ 18446744073709551615 ∷ 21 ∷ 4 ∷ 63 ∷ 4684596833555580929
    ∷ 64 ∷ 34359738375 ∷ 65 ∷ 9 ∷ 127 ∷ 6917529036231016451
    ∷ 129 ∷ 5 ∷ 131 ∷ 18446744073709551615 ∷ 191 ∷ 1729382256910270465 ∷ [])
    ∷ (0 ∷ 1 ∷ 1 ∷ 127 ∷ 2 ∷ 8 ∷ 3 ∷ 9 ∷ 4 ∷ 10 ∷ 5 ∷ 1 ∷ 6 ∷ 2 ∷ 7 ∷ 3 ∷ 8 ∷ 4 ∷ 9 ∷ 5 ∷ 10 ∷ 6 ∷ 11 ∷ 7 ∷ 12 ∷ 8 ∷ 13 ∷ 11 ∷ 14 ∷ 12 ∷ 15 ∷ 13 ∷ 16 ∷ 14
    ∷ 17 ∷ 15 ∷ 18 ∷ 16 ∷ 19 ∷ 17 ∷ 20 ∷ 18 ∷ 21 ∷ 64 ∷ 63 ∷ 10955058870136864785
    ∷ 126 ∷ 30064771072 ∷ 127 ∷ 9223372066919546880 ∷ 128 ∷ 8 ∷ 191 ∷ 9223372036854775810
    ∷ 192 ∷ 6 ∷ 255 ∷ 2 ∷ 256 ∷ 6 ∷ 319 ∷ 2 ∷ [])
    ∷ []
unfolding jobs shown shown_at zeros code job_form header_words stored_inputs code_pairs part_blocks given_of box_of block bytes_of number_of check_from from flat_map
jobs_right = refl

-- the longest job is 19 blocks
pub longest : form_length (values_of (replicate code_words 1) (replicate memory_words 1) [] 1 0) ≡ most_blocks * block_bytes
unfolding given_of
longest = refl

-- a refusal's number or 0, and the bytes written; the code is of ECALLs and memory of zeros, of so many words each, and the space has so many bytes
unfoldable pub answer : ℕ → List ℕ → ℕ → ℕ → ℕ → ℕ → List ℕ
answer words intervals limit memory first space =
    let o = write_outcome (job_written (write_call_of (values_of (replicate words 115) (replicate memory 0) intervals limit first) (replicate space 0))).answer in
    o.refused ∷ o.bytes ∷ []

unfoldable pub box : List ℕ
box = 0 ∷ 255 ∷ []

unfoldable pub answers : List (List ℕ)
answers =
    answer 8 box 100 512 0 1024
    -- two noes, of two questions that follow one another
    ∷ answer 0 (replicate 18 0) 100 512 0 1024
    ∷ answer 8 (6 ∷ 5 ∷ 0 ∷ []) 100 512 0 1024
    ∷ answer 8 (0 ∷ 1 ∷ 6 ∷ 5 ∷ []) 0 512 0 1024
    ∷ answer 8 box 0 511 0 1024
    ∷ answer 8 box 100 511 (2 ^ 32) 1024
    ∷ answer 8 box 100 512 (2 ^ 32) 1023
    -- the last question alone
    ∷ answer 8 box 100 512 0 1023
    ∷ []

pub answers_right : answers
    ≡ (0 ∷ 1024 ∷ []) ∷ (1 ∷ 0 ∷ []) ∷ (2 ∷ 0 ∷ []) ∷ (3 ∷ 0 ∷ []) ∷ (4 ∷ 0 ∷ []) ∷ (6 ∷ 0 ∷ []) ∷ (8 ∷ 0 ∷ []) ∷ (14 ∷ 0 ∷ []) ∷ []
unfolding answers answer box job_written done_by first value_questions box_of in_order given_of
answers_right = refl
