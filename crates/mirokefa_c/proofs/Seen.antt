-- The number that a caller in C sees: 0 exactly if every question has the answer yes, and a refusal's exactly if the first no gives it.
-- Assumes nothing.
use mathlib.Core.Path.{◌≡◌, ap}
use mathlib.Core.Bool.{true}
use mathlib.Core.List.{List}
use Prim.Native.Nat.{ℕ, ◌^◌, ◌<◌, ◌≤◌}
use native.Mathlib.Omega.{arith}
use lib.ListN.{length}
use Rattle.calls.specs.Border.{refused_number, reply_of}
use Rattle.calls.specs.Call.{Call, questions, refusal_of, reply_to, called}
use Rattle.calls.specs.Done.{refusal_from}
use Rattle.calls.specs.Refuses.{TellsNo}
use Rattle.std.specs.Prelude.{Ok}
use Rattle.calls.proofs.Done.{done_refusal, left_done}
use Rattle.calls.proofs.Numbers.{tells_no}
use Rattle.demands.proofs.Refuses.{reply_refusal}
use Rattle.reports.specs.Placing.{PlaceCall, place_questions, place_deed, placed}
use Rattle.reports.specs.Readable.{readable}
use Rattle.reports.proofs.Promises.{readable_inputs}
use Rattle.sheets.specs.Sheet.{sheet_text, sheet_length, sheet_bytes, SheetCall, sheet_call_of, sheet_questions, sheet_deed, printed}
use Rattle.sheets.proofs.Lengths.{text_length, bytes_known}
use Rattle.sheets.proofs.Promises.{both_yes}
use Rattle.serving.specs.Served.{served}
use Rattle.serving.specs.Server.{server_questions}
use Rattle.serving.proofs.Demands.{server_refusal}
use Rattle.writing.specs.Write.{WriteCall, write_questions, write_deed, job_written, write_outcome}

pub explore_tells : (memory table : List ℕ) (c : Call)
    → TellsNo (questions memory (length table) c) (reply_of (called memory table c).reply.answer).refused
unfolding called reply_to
explore_tells memory table c =
    tells_no _ (ap refused_number (reply_refusal memory (length table) c (refusal_of memory (length table) c)))

pub serve_tells : (bytes report : List ℕ) → TellsNo (server_questions bytes report) (reply_of (served bytes report).answer).refused
serve_tells bytes report = tells_no _ (ap refused_number (server_refusal bytes report))

pub place_tells : (c : PlaceCall) → TellsNo (place_questions c) (refused_number (refusal_from (placed c).answer))
place_tells c = tells_no _ (ap refused_number (done_refusal (place_questions c) (place_deed c)))

pub sheet_tells : (c : SheetCall) → TellsNo (sheet_questions c) (refused_number (refusal_from (printed c).answer))
sheet_tells c = tells_no _ (ap refused_number (done_refusal (sheet_questions c) (sheet_deed c)))

pub write_tells : (c : WriteCall) → TellsNo (write_questions c) (write_outcome (job_written c).answer).refused
unfolding job_written
write_tells c = tells_no _ (ap refused_number (done_refusal (write_questions c) (write_deed c)))

-- of `mirokefa_sheet_bytes`: of a report that passes question 12, it is the text's length, and a sheet of so many bytes is never too short
module _ (n : ℕ) (report : List ℕ) (passes : readable n report ≡ true) (lent : length report < 2 ^ 64) where
  pub bytes_seen : sheet_bytes n (length report) ≡ length (sheet_text n report)
  bytes_seen = bytes_known n report (readable_inputs n report passes).1 lent

  pub bytes_enough : (sheet : List ℕ) → sheet_bytes n (length report) ≤ length sheet
      → (printed (sheet_call_of n report sheet)).answer ≡ Ok (sheet_length n (length report))
  bytes_enough sheet room =
      let c : SheetCall = sheet_call_of n report sheet in
      let yes = both_yes c passes (omega (arith, room, bytes_seen, text_length n report)) in
      ap (λ l. l.answer) (left_done (sheet_questions c) (sheet_deed c) yes)
