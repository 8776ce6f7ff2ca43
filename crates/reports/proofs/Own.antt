-- The rows of a job in its own complete report: each row of the starting box has the number of the one path that holds it.
-- Assumes nothing.
use mathlib.Core.Path.{◌≡◌, sym, ap, ◌∙◌, subst}
use mathlib.Core.Bool.{true, false}
use mathlib.Core.Logic.{◌↔◌, ⊎_elim}
use mathlib.Core.List.Memᴰ
use mathlib.Core.List.{List, [], ◌∷◌, append-nil, flat_map}
use Prim.Native.Nat.{ℕ, ◌*◌, ◌^◌, ◌≤◌, ◌<◌}
use native.Mathlib.Nat.{zero-add}
use native.Mathlib.Omega.{arith}
use lib.ListN.{length, length-take}
use Rattle.boxes.specs.Boxes.{Choice, Inside, keep, ◌∈◌}
use Rattle.boxes.proofs.Lists.{by_test}
use Rattle.boxes.proofs.Places.{place_mem, place_exists, place_below}
use Rattle.listing.specs.Group.{Job}
use Rattle.listing.specs.Listing.{Path, listing}
use Rattle.corners.specs.Working.Good.{Sound}
use Rattle.blocks.specs.Reading.{Tells}
use Rattle.blocks.specs.Record.{most_inputs, record_bytes, records}
use Rattle.blocks.specs.Report.{records_in, record_at}
use Rattle.blocks.specs.Said.{Said, said_at, said_of}
use Rattle.blocks.proofs.Reading.{records_length}
use Rattle.blocks.proofs.Said.{said_told}
use Rattle.calls.specs.Call.{Call, inputs_of, written, more, job_of}
use Rattle.calls.specs.Complete.{IsPath, Complete}
use Rattle.calls.specs.Engine.{Engine, Lent, Leaves, Meets, Exchange, History, over, made}
use Rattle.calls.specs.Done.{DoneLeft}
use Rattle.calls.specs.Together.{SameJob, last, is_accepted, bytes_written}
use Rattle.std.specs.Prelude.{Ok}
use Rattle.calls.proofs.Done.{left_done}
use Rattle.demands.proofs.Accepted.{path_inputs, paths_fit_lem}
use Rattle.demands.proofs.Complete.{listing_complete}
use Rattle.demands.proofs.Demands.{demand_2, demand_3, history_fair, leaves_meets}
use Rattle.demands.proofs.Faithful.{listing_faithful}
use Rattle.demands.proofs.Histories.{Fair}
use Rattle.demands.proofs.Joined.{same_itself, fair_sound, fair_few, fair_counted, fair_limit, pages_some}
use Rattle.demands.proofs.Words.{path_fits}
use Rattle.reports.specs.Readable.{all_said, readable}
use Rattle.reports.specs.Placing.{rows_in, row_at, is_inside, no_path, placing, PlaceCall, place_call_of, place_questions, place_deed, placed}
use Rattle.reports.specs.Placed.{FirstHolds, OwnReport, OnPath, OwnPlaced}
use Rattle.reports.proofs.Written.{Writable, report_length, report_records, tells_at, written_readable}
use Rattle.reports.proofs.Records.{inside_test}
use Rattle.reports.proofs.Listed.{placing_first, placing_none}
use Rattle.reports.proofs.Promises.{both_yes, row_answer}

-- a sound job with at most 8 inputs whose whole listing is a report
record Reportable (j : Job) : Type 0 where
  sound : Sound j j.box
  limit : j.limit < 2 ^ 64
  few : length j.box ≤ most_inputs
  size : length (records 0 (listing j)) < 2 ^ 64

module _ (j : Job) (able : Reportable j) where
  abbrev n : ℕ
  n = length j.box

  abbrev report : List ℕ
  report = records 0 (listing j)

  writable : Writable n 0 (listing j)
  writable =
      let size = records_length n 0 (listing j) (paths_fit_lem j able.sound able.few) in
      record {
        words = λ p m i l. path_fits j able.sound able.limit p m able.few i (omega (arith, size, able.size));
        inputs = path_inputs j able.sound;
      }

  path_at : (i : ℕ) → i < records_in n report → (p : Path) × IsPath j i p
  path_at i l = place_exists (listing j) i (omega (arith, report_records writable))

  module _ (i : ℕ) (p : Path) (e : IsPath j i p) where
    in_listing : p ∈ listing j
    in_listing = place_mem (listing j) i e

    tells : Tells (record_at n report i) i p
    tells = rw zero-add at (tells_at writable i p e)

    inputs_are : length p.box ≡ n
    inputs_are = writable.inputs p in_listing

    -- its record has its box
    said : said_at n report i ≡ said_of i p
    said = rw inputs_are at (said_told tells (omega (arith, able.few, inputs_are)))

    holds : (row : Choice) → (is_inside row (said_at n report i).box ≡ true) ↔ Inside row p.box
    holds row = subst (λ (s : Said). (is_inside row s.box ≡ true) ↔ Inside row p.box) (sym said) (inside_test row p.box)

  complete : Complete j
  complete = listing_complete j able.sound

  module _ (row : Choice) where
    abbrev x : ℕ
    x = placing (all_said n report) row

    -- the path that holds a choice of the starting box has the first record that does
    listed_path : Inside row j.box → OnPath j row x
    listed_path h =
        let (m, p, e, i) = complete.some_path row h in
        let first : FirstHolds n report row m =
        record {
          inside = omega (arith, report_records writable, place_below (listing j) m e);
          held = (holds m p e row).1 i;
          not_before = λ k b.
              let (q, f) = path_at k (omega (arith, report_records writable, place_below (listing j) m e)) in
              by_test (is_inside row (said_at n report k).box)
              (λ y. absurd (omega (arith, complete.one_path row k m q p f e ((holds k q f row).0 y) i)))
              (λ held_not. held_not);
        } in
        let z : x ≡ m = placing_first n report row m first ∙ (tells m p e).number in
        record {
          path = p;
          listed = rw z e;
          inside = i;
          only = λ k q f g. complete.one_path row k m q p f e g i ∙ sym z;
          below = omega (arith, z, place_below (listing j) m e, report_length writable, able.size);
          faithful = listing_faithful j able.sound p (in_listing m p e);
        }

    listed_outside : (Inside row j.box → ⊥) → x ≡ no_path
    listed_outside h =
        placing_none n report row
        (λ k b.
        let (p, e) = path_at k b in
        by_test (is_inside row (said_at n report k).box)
        (λ y. absurd (h ((listing_faithful j able.sound p (in_listing k p e)).inputs row ((holds k p e row).0 y))))
        (λ held_not. held_not))

-- of what an engine that meets the contract of a call wrote
module _ (E : Engine) (meets : Meets E) {memory table : List ℕ} {xs : List Exchange} (lent : (x : Exchange) → x ∈ xs → Lent memory table x.call)
    (history : History E memory table xs) (c : Call) (report : List ℕ) (own : OwnReport c (keep is_accepted xs) report) where
  abbrev j : Job
  j = job_of memory (length table) c

  pub report_is : report ≡ records 0 (listing j)
  report_is = own.bytes ∙ ((demand_3 E meets lent history).pages c own.pages).bytes

  -- one of the calls
  asked : (x : Exchange) × Fair memory (length table) x × SameJob x.call c
  asked = let (x, m, s) = pages_some own.pages in (x, history_fair E meets lent history x m, s)

  counted : length j.box ≡ inputs_of c
  counted = fair_counted memory (length table) c asked.1 asked.2

  able : Reportable j
  able =
      let (x, f, s) = asked in
      record {
        sound = fair_sound memory (length table) c f s;
        limit = fair_limit memory (length table) c f s;
        few = fair_few memory (length table) c f s;
        size = rw report_is at own.size;
      }

  pub own_writable : Writable (inputs_of c) 0 (listing j)
  own_writable = rw (sym counted) (writable j able)

  -- question 12 never turns such a report away
  pub own_readable : readable (inputs_of c) report ≡ true
  own_readable = rw report_is (written_readable own_writable own.inputs (omega (arith, counted, able.few)))

  pub own_placed : OwnPlaced memory (length table) c report
  own_placed rows answers fit =
      record {
        answered = a;
        from_box = λ k l h. rw (row_answer call _ a k l, same (row k)) (listed_path j able (row k) h);
        outside = λ k l h. row_answer call _ a k l ∙ same (row k) ∙ listed_outside j able (row k) h;
      }
    where
      n : ℕ
      n = inputs_of c

      call : PlaceCall
      call = place_call_of n report rows answers

      row : ℕ → List ℕ
      row k = row_at n rows k

      a : (placed call).answer ≡ Ok (rows_in n rows)
      a = ap (λ (l : DoneLeft). l.answer) (left_done (place_questions call) (place_deed call) (both_yes call own_readable fit))

      same : (r : List ℕ) → placing (all_said n report) r ≡ placing (all_said (length j.box) (records 0 (listing j))) r
      same r = rw (report_is, counted)

-- one page that a call wrote from path 0 on, with no further path
pub one_page : {memory table : List ℕ} (x : Exchange) → Lent memory table x.call → Leaves memory table x.call x.left → is_accepted x ≡ true
    → 1 ≤ inputs_of x.call → x.call.first ≡ 0 → more x.left.reply.answer ≡ false → OwnReport x.call (x ∷ []) (bytes_written x)
unfolding flat_map
one_page x lent leaves accepted inputs from_0 no_further =
    let used = record_bytes (inputs_of x.call) * written x.left.reply.answer in
    record {
      inputs = inputs;
      pages = last (same_itself x.call) from_0 no_further;
      bytes = sym (append-nil (bytes_written x));
      size = rw (length-take used x.left.reply.report) (omega (arith, (demand_2 Leaves leaves_meets lent leaves accepted).size, lent.typed.bytes));
    }

-- so the rows placed in it have their paths
pub page_placed : {memory table : List ℕ} (x : Exchange) → Lent memory table x.call → Leaves memory table x.call x.left → is_accepted x ≡ true
    → 1 ≤ inputs_of x.call → x.call.first ≡ 0 → more x.left.reply.answer ≡ false
    → OwnPlaced memory (length table) x.call (bytes_written x)
unfolding keep
page_placed x lent leaves accepted inputs from_0 no_further =
    own_placed Leaves leaves_meets {xs = x ∷ []}
    (λ y m. ⊎_elim (λ e. rw e lent) (λ n. absurd (Memᴰ.not-nil n)) (Memᴰ.cases_cons m))
    (made leaves over) x.call (bytes_written x) (rw accepted (one_page x lent leaves accepted inputs from_0 no_further))
