-- What an accepted call writes: demand 2 of its report's bytes.
-- Assumes nothing.
use mathlib.Core.Path.{◌≡◌, refl, ◌∙◌}
use mathlib.Core.List.{List, ◌++◌}
use mathlib.Core.Option.{none}
use Prim.Native.Nat.{ℕ, ◌+◌, ◌-◌, ◌*◌, ◌^◌, ◌≤◌, ◌<◌, min}
use native.Mathlib.Omega.{arith}
use lib.ListN.{length, drop, length-append, length-take, length-drop}
use lib.Seq.{take-append-le, drop-append-le, drop_at}
use borrow.Author.Tests.{ltb-true}
use Rattle.boxes.specs.Boxes.{◌∈◌}
use Rattle.boxes.proofs.Places.{place_mem, place_exists, place_take, place_drop, part_mem}
use Rattle.listing.specs.Group.{Job}
use Rattle.listing.specs.Listing.{Path, listing}
use Rattle.blocks.specs.Record.{most_inputs, record_bytes, record_of, records}
use Rattle.blocks.specs.Report.{records_in, record_at}
use Rattle.blocks.proofs.Reading.{Fits, records_length, records_at, record_tells}
use Rattle.calls.specs.Call.{Call, inputs_of, Below, Typed, written, more, refusal_of, job_of, page, reply_by, reply_to}
use Rattle.calls.specs.Limits.{first_end}
use Rattle.calls.specs.Reported.{Told, Reported}
use Rattle.calls.proofs.Asked.{call_passed}
use Rattle.demands.proofs.Accepted.{accepted_sound, job_inputs, inputs_counted, path_inputs, paths_fit_lem}
use Rattle.demands.proofs.Faithful.{listing_faithful}
use Rattle.demands.proofs.Words.{path_fits}
use Rattle.corners.specs.Working.Good.{Sound}

module _ (memory : List ℕ) (words : ℕ) (c : Call) (bounded : Below (2 ^ 64) memory) (typed : Typed c) (e : refusal_of memory words c ≡ none) where
  abbrev j : Job
  j = job_of memory words c

  abbrev ps : List Path
  ps = page j c

  sound : Sound j j.box
  sound = accepted_sound memory words c e bounded typed.intervals

  page_mem : (p : Path) → p ∈ ps → p ∈ listing j
  unfolding page
  page_mem p m = part_mem (records_in (inputs_of c) c.report) c.first (listing j) m

  fits : (p : Path) → p ∈ ps → (length p.box ≤ most_inputs) × (length p.registers ≡ 32)
  fits p m = paths_fit_lem j sound (job_inputs memory words c e) p (page_mem p m)

  page_length : length ps ≡ min (records_in (inputs_of c) c.report) (length (listing j) - c.first)
  unfolding page
  page_length = rw (length-take, length-drop)

  bytes_length : length (records c.first ps) ≡ record_bytes (inputs_of c) * length ps
  bytes_length = records_length (inputs_of c) c.first ps fits

  limit_word : j.limit < 2 ^ 64
  unfolding job_of
  limit_word = typed.limit

  -- the numbers of its paths are words, and so is all that their records hold
  pub page_few : c.first + length ps ≤ 2 ^ 64
  page_few =
      let first = ltb-true c.first first_end (call_passed memory words c e).first in
      omega (arith, page_length, typed.bytes)

  pub page_fits : (p : Path) → p ∈ ps → (k : ℕ) → k < 2 ^ 64 → Fits k p
  page_fits p m = path_fits j sound limit_word p (page_mem p m) (job_inputs memory words c e)

  pub page_inputs : (p : Path) → p ∈ ps → length p.box ≡ inputs_of c
  page_inputs p m = path_inputs j sound p (page_mem p m) ∙ inputs_counted memory words c e

  told : (i : ℕ) → i < length ps → Told j (c.first + i) (record_at (inputs_of c) (records c.first ps ++ drop (record_bytes (inputs_of c) * length ps) c.report) i)
  unfolding page
  told i l =
      let (p, z) = place_exists ps i l in
      let m = place_mem ps i z in
      let q = page_mem p m in
      let n : c.first + i < 2 ^ 64 = omega (arith, page_few) in
      let r : record_at (inputs_of c) (records c.first ps ++ drop (record_bytes (inputs_of c) * length ps) c.report) i ≡ record_of (c.first + i) p =
      rw (
        drop-append-le (record_bytes (inputs_of c) * i) (records c.first ps) (drop (record_bytes (inputs_of c) * length ps) c.report) (omega (arith, bytes_length)),
        take-append-le (record_bytes (inputs_of c)) (drop (record_bytes (inputs_of c) * i) (records c.first ps)) (drop (record_bytes (inputs_of c) * length ps) c.report)
            (rw length-drop (omega (arith, bytes_length))),
      )
      (records_at (inputs_of c) c.first ps fits i p z) in
      record {
        path = p;
        listed = place_drop c.first (listing j) i (place_take (records_in (inputs_of c) c.report) (drop c.first (listing j)) i z);
        tells = rw r (record_tells (c.first + i) p (page_fits p m (c.first + i) n));
        faithful = listing_faithful j sound p q;
      }

  pub reported : Reported j c (reply_to memory words c)
  unfolding reply_to
  reported = rw e go
    where
      go : Reported j c (reply_by memory words c none)
      go = unfold reply_by written more in record {
        count = page_length;
        further = refl;
        records = told;
        rest = drop_at (records c.first ps) (drop (record_bytes (inputs_of c) * length ps) c.report) (record_bytes (inputs_of c) * length ps) bytes_length;
        size = rw (length-append, length-drop) (omega (arith, bytes_length, page_length));
      }
