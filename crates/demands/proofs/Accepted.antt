-- What an accepted call says of its job: the laws of the listing hold of it, and the paths fit their blocks.
-- Assumes nothing.
use mathlib.Core.Path.{◌≡◌, refl, sym, ◌∙◌, subst}
use mathlib.Core.Bool.{Bool, true, ◌&&◌, and-eq-true_iff}
use mathlib.Core.List.{List, [], ◌∷◌}
use mathlib.Core.Option.{none}
use Prim.Native.Nat.{ℕ, ◌*◌, ◌/◌, ◌%◌, ◌^◌, ◌≤◌}
use native.Mathlib.Omega.{arith}
use lib.Dec.{leb, eqb}
use lib.ListN.{length}
use borrow.Author.Tests.{leb-true, eqb-true}
use Rattle.boxes.specs.Boxes.{Interval, Box, from, lows, ◌∈◌}
use Rattle.boxes.specs.Working.Cuts.{Proper}
use Rattle.boxes.proofs.Choices.{inside_length}
use Rattle.listing.specs.Group.{Job}
use Rattle.listing.specs.Listing.{Path, path_of, listing}
use Rattle.paths.proofs.Paths.{listing_ended}
use Rattle.riscu.specs.Limits.{code_words, memory_words}
use Rattle.blocks.specs.Record.{most_inputs}
use Rattle.calls.specs.Questions.{in_order}
use Rattle.calls.specs.Call.{Call, inputs_of, Below, box_of, refusal_of, job_of}
use Rattle.calls.proofs.Asked.{CallPassed, call_passed}
use Rattle.calls.proofs.Pairs.{pairs, sides_below}
use Rattle.demands.proofs.Faithful.{listing_faithful}
use Rattle.corners.specs.Working.Good.{Sound}

pub both : (t u : Bool) → t && u ≡ true → (t ≡ true) × (u ≡ true)
both t u = (and-eq-true_iff t u).0

in_order_proper : (b : Box) → in_order b ≡ true → Proper b
unfolding in_order
in_order_proper [] e = tt
in_order_proper (v ∷ b) e = let (h, r) = both (leb v.low v.high) (in_order b) e in (leb-true v.low v.high h, in_order_proper b r)

module _ (memory : List ℕ) (words : ℕ) (c : Call) (e : refusal_of memory words c ≡ none) where
  passed : CallPassed memory words c
  passed = call_passed memory words c e

  whole_pairs_lem : (2 * length (box_of c.intervals) ≡ length c.intervals) × (length c.intervals / 2 ≤ most_inputs)
  whole_pairs_lem =
      let (even, few) = both (eqb (length c.intervals % 2) 0) _ passed.intervals in
      (pairs c.intervals (eqb-true _ _ even), leb-true (length c.intervals / 2) most_inputs few)

  pub job_inputs : length (job_of memory words c).box ≤ most_inputs
  unfolding job_of
  job_inputs = omega (arith, whole_pairs_lem)

  pub inputs_counted : length (job_of memory words c).box ≡ inputs_of c
  unfolding job_of
  inputs_counted = omega (arith, whole_pairs_lem.0)

  pub accepted_sound : Below (2 ^ 64) memory → Below (2 ^ 64) c.intervals → Sound (job_of memory words c) (job_of memory words c).box
  unfolding job_of
  accepted_sound m t =
      record {
        code = leb-true (length c.code) code_words (both (leb 1 (length c.code)) _ passed.code).1;
        memory = record { count = eqb-true (length memory) memory_words passed.memory; words = m };
        proper = in_order_proper (box_of c.intervals) passed.order;
        inputs = sides_below (2 ^ 64) (λ (i : Interval). i.high) (λ l h a b. b) (omega arith) c.intervals t;
      }

-- a path of the listing has the job's inputs and 32 registers
module _ (j : Job) (sound : Sound j j.box) (p : Path) (m : p ∈ listing j) where
  pub path_inputs : length p.box ≡ length j.box
  path_inputs =
      let f = listing_faithful j sound p m in
      sym (inside_length p.box (lows p.box) f.lowest)
      ∙ inside_length j.box (lows p.box) (f.inputs (lows p.box) f.lowest)

  pub path_registers : length p.registers ≡ 32
  unfolding path_of from
  path_registers = subst (λ (q : Path). length q.registers ≡ 32) (listing_ended j sound p m).path refl

-- so they fit a record's places
pub paths_fit_lem : (j : Job) → Sound j j.box → length j.box ≤ most_inputs → (p : Path) → p ∈ listing j
    → (length p.box ≤ most_inputs) × (length p.registers ≡ 32)
paths_fit_lem j sound few p m = (omega (arith, path_inputs j sound p m), path_registers j sound p m)
