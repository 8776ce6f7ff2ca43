-- A job is a header block, code blocks, then memory blocks: where its parts stand, the questions on it, and what is read.
use Rattle.std.specs.Prelude.{ℕ, ◌+◌, ◌-◌, ◌*◌, ◌/◌, ◌%◌, ◌^◌, Bool, cond, ◌&&◌, List, [], ◌∷◌, ◌++◌, map, leb, eqb, length, replicate}
use Rattle.std.proofs.Math.Option.{Option}
use Rattle.boxes.specs.Boxes.{from}
use Rattle.riscu.specs.Limits.{memory_words}
use Rattle.listing.specs.First.{first}
use Rattle.blocks.specs.Block.{block_words, block_bytes, payload_words, word_at, block_count, each, checks_agree}
use Rattle.calls.specs.Call as call
use Rattle.calls.specs.Call.{call_of, box_of}
use Rattle.calls.specs.Questions.{Question, ◌otherwise◌, code_fits, inputs_fit, in_order, limit_fits, first_fits}
use Rattle.calls.specs.declared.Refusal.{Refusal}
use Rattle.calls.specs.declared.Refusal.TheVariants.{Code, Inputs, Order, Limit, Memory, First, Blocks, Check, Form}
use Rattle.jobs.specs.Header as header

-- The words of the header.

abbrev pub mark : List ℕ → ℕ
mark bytes = word_at bytes header.mark

abbrev pub code_count : List ℕ → ℕ
code_count bytes = word_at bytes header.code

abbrev pub input_count : List ℕ → ℕ
input_count bytes = word_at bytes header.inputs

abbrev pub step_limit : List ℕ → ℕ
step_limit bytes = word_at bytes header.limit

abbrev pub first_path : List ℕ → ℕ
first_path bytes = word_at bytes header.first

abbrev pub low_of : List ℕ → ℕ → ℕ
low_of bytes i = word_at bytes (header.low_at (input_count bytes) i)

abbrev pub high_of : List ℕ → ℕ → ℕ
high_of bytes i = word_at bytes (header.high_at (input_count bytes) i)

-- memory words given
abbrev pub given_count : List ℕ → ℕ
given_count bytes = word_at bytes header.given

-- The parts behind the header take as few blocks as hold their words, 63 a block.

abbrev pub blocks_for : ℕ → ℕ
blocks_for words = (words + (payload_words - 1)) / payload_words

-- payload word i of the part that begins with block b
unfoldable pub payload_at : List ℕ → ℕ → ℕ → ℕ
payload_at bytes b i = word_at bytes ((b + i / payload_words) * block_words + i % payload_words)

-- two code words per payload word
abbrev pub code_payload : ℕ → ℕ
code_payload words = (words + 1) / 2

abbrev pub code_blocks : List ℕ → ℕ
code_blocks bytes = blocks_for (code_payload (code_count bytes))

-- the block that the code begins with, in a job of n inputs: the header holds them all
abbrev pub first_code : ℕ → ℕ
first_code n = 1

abbrev pub first_memory : List ℕ → ℕ
first_memory bytes = first_code (input_count bytes) + code_blocks bytes

-- the blocks of a job with so many inputs, code words and memory words given
abbrev pub blocks_needed : ℕ → ℕ → ℕ → ℕ
blocks_needed n code given = first_code n + blocks_for (code_payload code) + blocks_for given

abbrev pub memory_blocks : List ℕ → ℕ
memory_blocks bytes = blocks_for (given_count bytes)

-- code word j, low half first
abbrev pub half : ℕ → ℕ → ℕ
half j w = cond (eqb (j % 2) 0) (w % 2 ^ 32) (w / 2 ^ 32)

unfoldable pub code_at : List ℕ → ℕ → ℕ
code_at bytes j = half j (payload_at bytes (first_code (input_count bytes)) (j / 2))

-- memory word i
abbrev pub memory_at : List ℕ → ℕ → ℕ
memory_at bytes i = payload_at bytes (first_memory bytes) i

-- low, high, low, high
unfoldable pub interval_at : List ℕ → ℕ → ℕ
interval_at bytes j = cond (eqb (j % 2) 0) (low_of bytes (j / 2)) (high_of bytes (j / 2))

-- What is read: the code, the intervals, the step limit, the first path, the memory words given and then 0.

pub record JobRead : Type 0 where
  pub code : List ℕ
  pub intervals : List ℕ
  pub limit : ℕ
  pub first : ℕ
  pub memory : List ℕ

unfoldable pub code_in : List ℕ → List ℕ
code_in bytes = map (code_at bytes) (from 0 (code_count bytes))

unfoldable pub intervals_in : List ℕ → List ℕ
intervals_in bytes = map (interval_at bytes) (from 0 (2 * input_count bytes))

unfoldable pub memory_in : List ℕ → List ℕ
memory_in bytes = map (memory_at bytes) (from 0 (given_count bytes)) ++ replicate (memory_words - given_count bytes) 0

unfoldable pub job_read : List ℕ → JobRead
job_read bytes =
    record {
      code = code_in bytes;
      intervals = intervals_in bytes;
      limit = step_limit bytes;
      first = first_path bytes;
      memory = memory_in bytes;
    }

-- the call that a job stands for, with the report that is lent to it
abbrev pub call_for : JobRead → List ℕ → call.Call
call_for j report = call_of j.code j.intervals j.limit report j.first

abbrev pub call_in : List ℕ → List ℕ → call.Call
call_in bytes report = call_for (job_read bytes) report

-- The questions.

-- 9: 1 to 19 whole blocks
abbrev pub most_blocks : ℕ
most_blocks = 19

unfoldable pub whole_blocks : List ℕ → Bool
whole_blocks bytes = eqb (length bytes % block_bytes) 0 && (leb 1 (block_count bytes) && leb (block_count bytes) most_blocks)

-- 10: every check agrees (checks_agree)

-- 6: the memory words given are at most 512
abbrev pub given_fits : ℕ → Bool
given_fits words = leb words memory_words

-- 11: word 0 equal to 1, the block count as the header needs, each unused word and half 0
abbrev pub zero_word : List ℕ → ℕ → ℕ → Bool
zero_word bytes b i = eqb (payload_at bytes b i) 0

abbrev pub zero_half : List ℕ → ℕ → Bool
zero_half bytes j = eqb (code_at bytes j) 0

-- payload words i to e - 1 of the part that begins with block b
unfoldable pub zero_words : List ℕ → ℕ → ℕ → ℕ → Bool
zero_words bytes b i e = each (zero_word bytes b) i (e - i)

-- halves j to e - 1 of the code blocks
unfoldable pub zero_halves : List ℕ → ℕ → ℕ → Bool
zero_halves bytes j e = each (zero_half bytes) j (e - j)

unfoldable pub unused_zero : List ℕ → Bool
unused_zero bytes =
    zero_words bytes 0 (header.lows + input_count bytes) header.highs
    && (zero_words bytes 0 (header.highs + input_count bytes) header.given
    && (zero_words bytes 0 header.rest payload_words
    && (zero_halves bytes (code_count bytes) (2 * payload_words * code_blocks bytes)
    && zero_words bytes (first_memory bytes) (given_count bytes) (payload_words * memory_blocks bytes))))

unfoldable pub well_formed : List ℕ → Bool
well_formed bytes =
    eqb (mark bytes) header.mark_word
    && (eqb (block_count bytes) (blocks_needed (input_count bytes) (code_count bytes) (given_count bytes)) && unused_zero bytes)

-- 1, 2, 3, 4, 6, 8 on the header
unfoldable pub header_questions : List ℕ → List Question
header_questions bytes =
    (code_fits (code_count bytes) otherwise Code)
    ∷ (inputs_fit (input_count bytes) otherwise Inputs)
    ∷ (in_order (box_of (intervals_in bytes)) otherwise Order)
    ∷ (limit_fits (step_limit bytes) otherwise Limit)
    ∷ (given_fits (given_count bytes) otherwise Memory)
    ∷ (first_fits (first_path bytes) otherwise First)
    ∷ []

unfoldable pub job_questions : List ℕ → List Question
job_questions bytes =
    (whole_blocks bytes otherwise Blocks)
    ∷ (checks_agree bytes otherwise Check)
    ∷ (header_questions bytes ++ ((well_formed bytes otherwise Form) ∷ []))

-- the first no decides
abbrev pub job_refusal_of : List ℕ → Option Refusal
job_refusal_of bytes = first (job_questions bytes)
