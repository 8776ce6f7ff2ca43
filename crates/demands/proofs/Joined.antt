-- The pages of one job, joined.
-- Assumes nothing.
use mathlib.Core.Path.{◌≡◌, refl, sym, ap, ◌∙◌, subst}
use mathlib.Core.List.Memᴰ.{head as here}
use mathlib.Core.List.Memᴰ.{tail as there}
use mathlib.Core.List.{List, ◌++◌, append-nil, flat_map}
use Prim.Native.Nat.{ℕ, ◌+◌, ◌*◌, ◌^◌, ◌≤◌, ◌<◌}
use native.Mathlib.Omega.{arith}
use lib.Dec.{ltb}
use lib.ListN.{length, drop, length-take, length-drop}
use lib.Seq.{take_at, take_all, drop-drop}
use borrow.Author.Tests.{ltb-false}
use Rattle.boxes.specs.Boxes.{◌∈◌}
use Rattle.boxes.proofs.Places.{take_rest, part_mem}
use Rattle.listing.specs.Group.{Job}
use Rattle.listing.specs.Listing.{Path, listing}
use Rattle.blocks.specs.Record.{most_inputs, record_bytes, records}
use Rattle.blocks.specs.Report.{records_in}
use Rattle.blocks.proofs.Reading.{records_append, records_length}
use Rattle.calls.specs.Call.{Call, inputs_of, written, more, job_of, page, reply_by}
use Rattle.calls.specs.Engine.{Exchange}
use Rattle.calls.specs.Together.{SameJob, Pages, last, next, bytes_written}
use Rattle.corners.specs.Working.Good.{Sound}
use Rattle.demands.proofs.Accepted.{accepted_sound, job_inputs, inputs_counted}
use Rattle.demands.proofs.Histories.{Fair}

pub same_itself : (c : Call) → SameJob c c
same_itself c = record { code = refl; intervals = refl; limit = refl }

module _ (memory : List ℕ) (words : ℕ) (c : Call) where
  abbrev j : Job
  j = job_of memory words c

  pub same_job : {d : Call} → SameJob d c → job_of memory words d ≡ j
  unfolding job_of
  same_job s = cc

  -- what an accepted call of the job says of it
  module _ {x : Exchange} (f : Fair memory words x) (s : SameJob x.call c) where
    pub fair_sound : Sound j j.box
    fair_sound = subst (λ (i : Job). Sound i i.box) (same_job s) (accepted_sound memory words x.call f.passes f.memory_words f.typed.intervals)

    pub fair_few : length j.box ≤ most_inputs
    fair_few = subst (λ (i : Job). length i.box ≤ most_inputs) (same_job s) (job_inputs memory words x.call f.passes)

    pub fair_counted : length j.box ≡ inputs_of c
    fair_counted = rw (← same_job s, ← s.intervals) (inputs_counted memory words x.call f.passes)

    pub fair_limit : j.limit < 2 ^ 64
    unfolding job_of
    fair_limit = rw (← s.limit) f.typed.limit

  module _ (fits : (p : Path) → p ∈ listing j → (length p.box ≤ most_inputs) × (length p.registers ≡ 32)) where
    module _ (x : Exchange) (f : Fair memory words x) (s : SameJob x.call c) where
      abbrev ps : List Path
      ps = page j x.call

      written_is : written x.left.reply.answer ≡ length ps
      unfolding reply_by written
      written_is = rw (f.reply_is, same_job s)

      more_is : more x.left.reply.answer ≡ ltb (x.call.first + length ps) (length (listing j))
      unfolding reply_by more
      more_is = rw (f.reply_is, same_job s)

      pub bytes_are : bytes_written x ≡ records x.call.first ps
      unfolding reply_by
      bytes_are =
          let r : x.left.reply.report ≡ records x.call.first ps ++ drop (record_bytes (inputs_of x.call) * length ps) x.call.report =
          rw (f.reply_is, same_job s) in
          let l : length (records x.call.first ps) ≡ record_bytes (inputs_of x.call) * length ps =
          records_length (inputs_of x.call) x.call.first ps (λ p m. fits p (page_mem p m)) in
          rw (written_is, r)
          (take_at (records x.call.first ps) (drop (record_bytes (inputs_of x.call) * length ps) x.call.report) (record_bytes (inputs_of x.call) * length ps) l)
        where
          page_mem : (p : Path) → p ∈ ps → p ∈ listing j
          page_mem p m = unfold page in part_mem (records_in (inputs_of x.call) x.call.report) x.call.first (listing j) m

    -- the pages from path n on
    abbrev FromOn : ℕ → List Exchange → Type 0
    FromOn n xs = (flat_map (λ x. page j x.call) xs ≡ drop n (listing j)) × (flat_map bytes_written xs ≡ records n (drop n (listing j)))

    pub join : {n : ℕ} {xs : List Exchange} → Pages c n xs → ((x : Exchange) → x ∈ xs → Fair memory words x) → FromOn n xs
    unfolding flat_map page
    join (last {n} {x} s e m) h =
        let f = h x (here refl) in
        let k = records_in (inputs_of x.call) x.call.report in
        let l = ltb-false (x.call.first + length (page j x.call)) (length (listing j)) (sym (more_is x f s) ∙ m) in
        let z : page j x.call ≡ drop n (listing j) =
        rw (← e) (take_all k (drop x.call.first (listing j))
        (omega (arith, length-take k (drop x.call.first (listing j)), length-drop x.call.first (listing j)))) in
        (append-nil (page j x.call) ∙ z, append-nil (bytes_written x) ∙ bytes_are x f s ∙ cc (z, e))
    join (next {n} {x} {xs} s e r) h =
        let f = h x (here refl) in
        let k = records_in (inputs_of x.call) x.call.report in
        let ps = page j x.call in
        let w = written_is x f s in
        let (a, b) = join r (λ u m. h u (there m)) in
        let d : drop (n + written x.left.reply.answer) (listing j) ≡ drop (length ps) (drop n (listing j)) =
        rw w (sym (drop-drop (length ps) n (listing j))) in
        let z : ps ++ drop (length ps) (drop n (listing j)) ≡ drop n (listing j) =
        rw (← e) (take_rest k (drop x.call.first (listing j))) in
        let y : bytes_written x ++ flat_map bytes_written xs ≡ records n ps
        ++ records (n + length ps) (drop (length ps) (drop n (listing j))) =
        cc (bytes_are x f s, b, d, w, e) in (
          ap (λ (l : List Path). ps ++ l) (a ∙ d) ∙ z,
          y ∙ sym (records_append n ps (drop (length ps) (drop n (listing j)))) ∙ ap (records n) z,
        )

pub pages_some : {c : Call} {n : ℕ} {xs : List Exchange} → Pages c n xs → (x : Exchange) × (x ∈ xs) × SameJob x.call c
pages_some (last {x = x} s e m) = (x, here refl, s)
pages_some (next {x = x} s e r) = (x, here refl, s)
