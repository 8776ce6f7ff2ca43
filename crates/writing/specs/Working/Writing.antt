-- What the code's contracts use beside the definitions: the first no of the values, room for a job.
use Rattle.std.specs.Prelude.{ℕ, ◌*◌, ◌/◌, ◌≤◌, ◌≡◌, List, length}
use Rattle.std.proofs.Math.Option.{Option}
use Rattle.riscu.specs.Limits.{code_words, memory_words}
use Rattle.listing.specs.First.{first}
use Rattle.blocks.specs.Block.{block_bytes}
use Rattle.blocks.specs.Record.{most_inputs}
use Rattle.calls.specs.declared.Refusal.{Refusal}
use Rattle.jobs.specs.Job.{JobRead, blocks_needed}
use Rattle.writing.specs.Form.{given_of}
use Rattle.writing.specs.Write.{value_questions, values_of}
use Rattle.writing.specs.declared.value_words.Values.{Values}

-- the values in the slices of the code's own struct
abbrev pub values_in : Values → JobRead
values_in v = values_of v.code.now v.memory.now v.intervals.now v.limit v.first

-- the first no of the questions on the values
abbrev pub values_refusal : JobRead → Option Refusal
values_refusal j = first (value_questions j)

-- values that pass, by their lengths, with the memory words given, of which the last is not 0, and a space that is long enough
pub record Room (code given intervals space : List ℕ) : Type 0 where
  pub few_words : length code ≤ code_words
  pub few_inputs : length intervals ≤ 2 * most_inputs
  pub few_given : length given ≤ memory_words
  pub last : given_of given ≡ length given
  pub room : block_bytes * blocks_needed (length intervals / 2) (length code) (length given) ≤ length space
