-- Of all jobs that mean the same exactly one is the writer's form; they are free in their trailing zero words alone.
-- Assumes nothing.
use mathlib.Core.Path.{◌≡◌, refl, sym, ap, ◌∙◌}
use mathlib.Core.List.{List, [], ◌∷◌, ◌++◌, map}
use Prim.Native.Nat.{ℕ, zero, suc, ◌-◌, ◌*◌, ◌/◌, ◌^◌, ◌≤◌, ◌<◌}
use native.Mathlib.Omega.{arith}
use borrow.Author.Tests.{ltb-true, ltb-false}
use lib.Dec.{ltb}
use lib.ListN.{length, take, drop}
use Rattle.boxes.specs.Boxes.{from}
use Rattle.boxes.proofs.Lists.{by_test}
use Rattle.riscu.specs.Limits.{memory_words}
use Rattle.listing.proofs.First.{passes, none_applies}
use Rattle.blocks.specs.Block.{word_bytes, payload_words, bytes_of, check, payload, block}
use Rattle.calls.specs.Call.{Below}
use Rattle.calls.specs.declared.Refusal.TheVariants.{Code, Inputs, Order, Limit, Memory, First}
use Rattle.calls.proofs.Asked.{yes_on}
use Rattle.jobs.specs.Header as header
use Rattle.jobs.specs.Job.{JobRead, given_count, blocks_for, memory_at, memory_in, job_read}
use Rattle.jobs.proofs.Accepted.{code_length, intervals_length, memory_length, values_asked}
use Rattle.jobs.proofs.Asked.{yes_sized}
use Rattle.jobs.proofs.Copied.{copied}
use Rattle.jobs.proofs.Same.{memory_is, job_same}
use Rattle.jobs.proofs.Typed.{word_below, code_typed, intervals_typed, memory_typed}
use Rattle.writing.specs.Form.{given_of, header_words, code_pairs, given_words, part_block, part_blocks, job_form}
use Rattle.writing.specs.Write.{value_questions}
use Rattle.writing.specs.Written.{TypedValues, Passes, NoTrailingZero, GivesFew, ReadBack, AcceptedJob, SameMeaning, WritersForm, OneForm, FreeInZeros}
use Rattle.writing.proofs.Given.{given_few, given_padded, given_behind}
use Rattle.writing.proofs.Promises.{passes_written}
use Rattle.writing.proofs.Read.{form_length_lem, form_read, form_most, form_gives, form_few, form_last, form_accepted}
use Rattle.writing.proofs.Stores.{append_below, join_below}

pub read_back : (j : JobRead) → TypedValues j → Passes j → ReadBack j
read_back j typed passed =
    record {
      accepted = form_accepted j typed passed;
      same = form_read j typed passed;
      size = form_length_lem j;
      most = form_most j passed;
    }

pub gives_few : (j : JobRead) → TypedValues j → Passes j → GivesFew j
gives_few j typed passed = record { given = form_few j typed passed; last = form_last j typed passed }

-- the form is of bytes

word_bytes_lem : (n w : ℕ) → Below (2 ^ 8) (bytes_of n w)
unfolding bytes_of
word_bytes_lem zero w k = omega arith
word_bytes_lem (suc n) w zero = omega arith
word_bytes_lem (suc n) w (suc k) = word_bytes_lem n (w / 256) k

block_bytes_lem : (ws : List ℕ) → Below (2 ^ 8) (block ws)
unfolding block
block_bytes_lem ws = join_below (2 ^ 8) (bytes_of word_bytes) (payload ws ++ (check (payload ws) ∷ [])) (omega arith) (word_bytes_lem word_bytes)

part_bytes : (ws : List ℕ) → Below (2 ^ 8) (part_blocks ws)
unfolding part_blocks
part_bytes ws = join_below (2 ^ 8) (part_block ws) (from 0 (blocks_for (length ws))) (omega arith) (λ b. block_bytes_lem (take payload_words (drop (b * payload_words) ws)))

form_bytes : (j : JobRead) → Below (2 ^ 8) (job_form j)
unfolding job_form
form_bytes j =
    let code = code_pairs j.code in
    let given = given_words j.memory in
    append_below (2 ^ 8) (block (header_words j)) (part_blocks code ++ part_blocks given) (block_bytes_lem (header_words j))
    (append_below (2 ^ 8) (part_blocks code) (part_blocks given) (part_bytes code) (part_bytes given))

-- what is read can be written
module _ (bytes : List ℕ) (job : AcceptedJob bytes) where
  read_passes : Passes (job_read bytes)
  unfolding value_questions job_read
  read_passes =
      let v = values_asked bytes [] 0 job.accepted in
      (none_applies (value_questions (job_read bytes))).0
      (sym
      (passes
      ∙ yes_on First [] v.first
      ∙ yes_on Memory _ v.memory
      ∙ yes_on Limit _ v.limit
      ∙ yes_on Order _ v.order
      ∙ yes_on Inputs _ v.intervals
      ∙ yes_on Code _ v.code))

  read_typed : TypedValues (job_read bytes)
  unfolding job_read
  read_typed =
      let sized = yes_sized bytes job.accepted in
      record {
        code = code_typed bytes job.typed;
        code_count = omega (arith, code_length bytes, sized.code);
        intervals = intervals_typed bytes job.typed;
        interval_count = omega (arith, intervals_length bytes, sized.inputs);
        limit = word_below bytes job.typed header.limit;
        first = word_below bytes job.typed header.first;
        memory = memory_typed bytes job.typed;
        memory_count = omega (arith, memory_length bytes sized.given);
      }

  form_back : ReadBack (job_read bytes)
  form_back = read_back (job_read bytes) read_typed read_passes

pub one_form : (bytes : List ℕ) → AcceptedJob bytes → OneForm bytes
one_form bytes job =
    record {
      written_as = passes_written (job_read bytes) (read_passes bytes job);
      means = record { one_accepted = record { typed = form_bytes (job_read bytes); accepted = (form_back bytes job).accepted }; other_accepted = job; read = (form_back bytes job).same };
      is_form = record { values = job_read bytes; typed = read_typed bytes job; passes = read_passes bytes job; form = refl };
      only = λ other same f.
          let v : f.values ≡ job_read bytes =
          sym (form_read f.values f.typed f.passes) ∙ ap job_read (sym f.form) ∙ same.read in
          f.form ∙ ap job_form v;
      again = ap job_form (form_back bytes job).same;
      alike = λ other accepted. (ap job_form, λ e. sym (form_back other accepted).same ∙ ap job_read e ∙ (form_back bytes job).same);
    }

-- what an accepted job is free in
module _ (bytes : List ℕ) (job : AcceptedJob bytes) where
  abbrev form : List ℕ
  form = job_form (job_read bytes)

  -- the words that it gives, of which the form gives those up to the last that is not 0
  abbrev given : List ℕ
  given = map (memory_at bytes) (from 0 (given_count bytes))

  given_form : given_count form ≡ given_of (memory_in bytes)
  given_form = unfold job_read in form_gives (job_read bytes) (read_typed bytes job) (read_passes bytes job)

  no_fewer : given_count form ≤ given_count bytes
  unfolding memory_in
  no_fewer =
      omega (arith, given_form, given_padded given (memory_words - given_count bytes), given_few given, copied (memory_at bytes) (given_count bytes))

  beyond : (i : ℕ) → given_count form ≤ i → i < given_count bytes → memory_at bytes i ≡ 0
  beyond i l m = memory_is bytes job.accepted i (omega arith) ∙ given_behind (memory_in bytes) i (omega (arith, given_form))

  every_byte : (other : List ℕ) → SameMeaning other bytes → given_count other ≡ given_count bytes → other ≡ bytes
  every_byte other same count =
      let o = same.one_accepted in
      job_same other bytes o.accepted job.accepted same.read count o.typed job.typed

  as_many : given_count bytes ≡ given_count form → WritersForm bytes
  as_many e =
      record {
        values = job_read bytes;
        typed = read_typed bytes job;
        passes = read_passes bytes job;
        form = sym (every_byte form (one_form bytes job).means (sym e));
      }

  -- if it gave more than the form, the last would be 0
  no_more : NoTrailingZero bytes → given_count bytes ≤ given_count form
  no_more last =
      by_test (ltb (given_count form) (given_count bytes))
      (λ t.
      let more : given_count form < given_count bytes = ltb-true _ _ t in
      absurd (last (given_count bytes - 1) (omega arith) (beyond (given_count bytes - 1) (omega arith) (omega arith))))
      (λ t. ltb-false _ _ t)

  pub free_in_zeros : FreeInZeros bytes
  free_in_zeros =
      record {
        every_byte = every_byte;
        no_fewer = no_fewer;
        beyond = beyond;
        as_many = (
          λ f. ap given_count ((one_form bytes job).only bytes (record { one_accepted = job; other_accepted = job; read = refl }) f),
          as_many,
        );
        no_zero = (
          λ f. rw f.form (form_last f.values f.typed f.passes),
          λ last. as_many (omega (arith, no_fewer, no_more last)),
        );
      }
