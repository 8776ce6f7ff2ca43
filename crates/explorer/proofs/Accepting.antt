-- A call that passed the questions: what its exploration begins with, and that what it leaves is what document 01 says.
-- Assumes nothing.
use mathlib.Core.Path.{◌≡◌, refl, sym, ap, ◌∙◌}
use mathlib.Core.List.{List}
use mathlib.Core.Option.{none}
use Prim.Native.Nat.{ℕ, ◌+◌, ◌-◌, ◌*◌, ◌/◌, ◌%◌, ◌^◌, ◌≤◌, ◌<◌}
use native.Mathlib.Nat.{zero-add, div-mul-le_self}
use native.Mathlib.Omega.{arith}
use lib.Dec.{leb, eqb}
use lib.ListN.{length, get_or, take, replicate, length-take, length-map}
use lib.Seq.{ext_get_or, get_or-take}
use borrow.Author.Tests.{leb-true, ltb-true, eqb-true}
use Rattle.boxes.specs.Boxes.{◌⋯◌, from}
use Rattle.boxes.specs.Working.Cuts.{box_in}
use Rattle.boxes.proofs.Lists.{length_from, from_at}
use Rattle.boxes.proofs.TwoLists.{length_in, at_in}
use Rattle.blocks.specs.Record.{most_inputs, record_bytes}
use Rattle.calls.specs.Call.{Call, call_of, Below, box_of, refusal_of, job_of, reply_by, reply_to, table_by, left, called}
use Rattle.std.specs.Prelude.{Ok}
use Rattle.calls.proofs.Pairs.{pairs, pair_at}
use Rattle.calls.proofs.Asked.{CallPassed, call_passed}
use Rattle.demands.proofs.Accepted.{both, accepted_sound}
use Rattle.riscu.specs.Limits.{memory_words}
use Rattle.calls.specs.Limits.{most_steps, entry_words, first_end}
use Rattle.decide.specs.declared.Limits.{Limits}
use Rattle.pages.specs.declared.Window.{Window}
use Rattle.explorer.specs.Working.Held.{job_in, more}
use Rattle.explorer.specs.Working.Finished.{padded_ends, Begins, Finished}
use Rattle.explorer.specs.declared.Standing.{Standing}

-- the box of whole pairs, by its lows and highs

pub ends_length : (side : ℕ) (v : List ℕ) → length (padded_ends side v) ≡ most_inputs
ends_length side v = length-map (from 0 most_inputs) _ ∙ length_from most_inputs 0

ends_at : (side : ℕ) (v : List ℕ) (n i : ℕ) → i < n → n ≤ most_inputs → get_or (take n (padded_ends side v)) i 0 ≡ get_or v (2 * i + side) 0
ends_at side v n i h l =
    get_or-take n (padded_ends side v) i 0 h ∙ from_at (λ k. get_or v (2 * k + side) 0) 0 most_inputs 0 i (omega arith) ∙ rw zero-add

module _ (v : List ℕ) (even : length v % 2 ≡ 0) (few : length v ≤ 2 * most_inputs) where
  abbrev n : ℕ
  n = length v / 2

  taken : (side : ℕ) → length (take n (padded_ends side v)) ≡ n
  taken side = rw (length-take, ends_length) (omega arith)

  pub box_is : box_in (take n (padded_ends 0 v)) (take n (padded_ends 1 v)) ≡ box_of v
  box_is =
      let ls = take n (padded_ends 0 v) in
      let hs = take n (padded_ends 1 v) in
      let e = taken 0 ∙ sym (taken 1) in
      let k = length_in ls hs e ∙ taken 0 in
      let p = pairs v even in
      ext_get_or (0 ⋯ 0) (box_in ls hs) (box_of v) (omega arith)
      (λ i h. at_in ls hs e i ∙ (λ q. ends_at 0 v n i (omega arith) (omega arith) q ⋯ ends_at 1 v n i (omega arith) (omega arith) q)
      ∙ sym (pair_at v i (omega arith)))

module _ (code memory intervals table report : List ℕ) (limit first : ℕ)
    (d : refusal_of memory (length table) (call_of code intervals limit report first) ≡ none) where
  abbrev call : Call
  call = call_of code intervals limit report first

  abbrev limits : Limits
  limits = record { steps = limit; entries = length table / entry_words; inputs = length intervals / 2 }

  abbrev window : Window
  window = record { first = first; end = first + length report / record_bytes (length intervals / 2) }

  yes : CallPassed memory (length table) call
  yes = call_passed memory (length table) call d

  pub memory_count : length memory ≡ memory_words
  memory_count = eqb-true (length memory) memory_words yes.memory

  evens : length intervals % 2 ≡ 0
  evens = eqb-true (length intervals % 2) 0 (both (eqb (length intervals % 2) 0) _ yes.intervals).0

  pub some_inputs : length intervals / 2 ≤ most_inputs
  some_inputs = leb-true (length intervals / 2) most_inputs (both (eqb (length intervals % 2) 0) _ yes.intervals).1

  inputs_few : length intervals ≤ 2 * most_inputs
  inputs_few = omega (arith, some_inputs, evens)

  -- the first of the ends are those of the inputs
  module _ (side : ℕ) (l : List ℕ) (e : l ≡ padded_ends side intervals) where
    pub prefix_fits : length intervals / 2 ≤ length l
    prefix_fits = omega (arith, some_inputs, ap (λ (v : List ℕ). length v) e, ends_length side intervals)

    pub prefix_length : length intervals / 2 ≡ length (take (length intervals / 2) l)
    prefix_length = rw e (sym (taken intervals evens inputs_few side))

  limit_small : limit ≤ most_steps
  limit_small = leb-true limit most_steps (both (leb 1 limit) _ yes.limit).1

  pages_some : 1 ≤ length report / record_bytes (length intervals / 2)
  pages_some =
      let (a, b) = both (eqb (length report % record_bytes (length intervals / 2)) 0) _ yes.report in
      omega (arith, eqb-true (length report % record_bytes (length intervals / 2)) 0 a, leb-true 1 (length report) b)

  pub end_small : length report < 2 ^ 64 → first + length report / record_bytes (length intervals / 2) < 2 ^ 64
  end_small l = omega (arith, ltb-true first first_end yes.first)

  pub call_begins : Below (2 ^ 64) memory → Below (2 ^ 64) intervals → length report < 2 ^ 64
      → Begins (job_in code memory intervals limits) limits window (take (length intervals / 2) (padded_ends 0 intervals))
      (take (length intervals / 2) (padded_ends 1 intervals)) table report
  unfolding job_of
  call_begins m i r = record {
    fits = record {
      sound = accepted_sound memory (length table) call d m i;
      limit = refl;
      entries = refl;
      paired = taken intervals evens inputs_few 0 ∙ sym (taken intervals evens inputs_few 1);
      inputs = taken intervals evens inputs_few 0;
      table_fits = omega (arith, div-mul-le_self (length table) entry_words);
    };
    box = box_is intervals evens inputs_few;
    few = some_inputs;
    some = pages_some;
    end = refl;
    end_fits = end_small r;
    steps_fit = omega (arith, limit_small);
  }

  pub call_leaves : (written : List ℕ) (s : Standing) → Finished (job_in code memory intervals limits) call written s
      → left (Ok (record { count = s.paths - first; more = more s.phase })) written (replicate (length table) 0) memory ≡ called memory table call
  unfolding called reply_to reply_by table_by job_of
  call_leaves written s f = rw (d, f.count, f.further, f.bytes)
