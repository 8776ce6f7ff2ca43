-- Values are refused exactly as the reader would refuse a header with these values.
-- Assumes nothing.
use mathlib.Core.Path.{◌≡◌, sym, ◌∙◌}
use mathlib.Core.Logic.Iff
use mathlib.Core.Bool.{true}
use mathlib.Core.List.{List, [], ◌∷◌, ◌++◌, append-nil}
use Prim.Native.Nat.{ℕ, ◌%◌, ◌≤◌}
use native.Mathlib.Omega.{arith}
use lib.ListN.{length}
use Rattle.riscu.specs.Limits.{memory_words}
use Rattle.listing.specs.First.{first}
use Rattle.blocks.specs.Block.{block_bytes, payload_words, block, each, checks_agree}
use Rattle.blocks.proofs.Bytes.{block_length}
use Rattle.blocks.proofs.Checks.{checks_block}
use Rattle.calls.specs.Questions.{◌otherwise◌}
use Rattle.calls.specs.declared.Refusal.TheVariants.{Blocks, Check, Form}
use Rattle.calls.proofs.Asked.{yes_on}
use Rattle.jobs.specs.Job.{JobRead, whole_blocks, well_formed, header_questions, job_questions, job_refusal_of}
use Rattle.writing.specs.Form.{header_words}
use Rattle.writing.specs.Write.{write_call_of}
use Rattle.writing.specs.Written.{TypedValues, Alike, RefusedAlike}
use Rattle.writing.proofs.Alike.{all_alike}
use Rattle.writing.proofs.Header.{header_length, header_words_lem}
use Rattle.writing.proofs.Promises.{other_refusal, refused_value}

-- the reader's first no on bytes that begin with a header is the writer's on its values
refused_so : (j : JobRead) → TypedValues j → length j.intervals % 2 ≡ 0 → length j.memory ≡ memory_words → (rest : List ℕ) →
    let bytes = block (header_words j) ++ rest in
    whole_blocks bytes ≡ true → checks_agree bytes ≡ true → Alike j bytes
unfolding job_questions
refused_so j typed even memory rest whole checks r form space_asked space =
    let bytes : List ℕ = block (header_words j) ++ rest in
    let asked : job_refusal_of bytes ≡ first (header_questions bytes ++ ((well_formed bytes otherwise Form) ∷ [])) =
    sym (yes_on Check _ checks ∙ yes_on Blocks _ whole) in
    rw asked
    (Iff.trans (other_refusal (header_questions bytes) (well_formed bytes otherwise Form) r form)
    (rw (all_alike j typed even memory rest) (refused_value (write_call_of j space) r space_asked)))

-- the header alone is a whole block whose check agrees
header_alone : (j : JobRead) → TypedValues j →
    let bytes = block (header_words j) ++ [] in
    (whole_blocks bytes ≡ true) × (checks_agree bytes ≡ true)
unfolding whole_blocks checks_agree each
header_alone j typed =
    let few : length (header_words j) ≤ payload_words = omega (arith, header_length j) in
    let size : length (block (header_words j) ++ []) ≡ block_bytes = rw append-nil (block_length (header_words j) few) in
    (rw size, checks_block (header_words j) [] few (header_words_lem j typed))

pub refused_alike : (j : JobRead) → TypedValues j → RefusedAlike j
refused_alike j typed =
    record {
      alone = λ even memory.
          let (whole, checks) = header_alone j typed in
          rw append-nil at (refused_so j typed even memory [] whole checks);
      in_front = refused_so j typed;
    }
