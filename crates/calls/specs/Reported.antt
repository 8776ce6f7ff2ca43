-- Demand 2 of the bytes: what an accepted call writes into its report.
use Rattle.std.specs.Prelude.{◌≡◌, ℕ, ◌+◌, ◌-◌, ◌*◌, ◌<◌, min, List, ltb, length, drop}
use Rattle.listing.specs.Group.{Job}
use Rattle.listing.specs.Listing.{Path, listing}
use Rattle.blocks.specs.Record.{record_bytes}
use Rattle.blocks.specs.Report.{records_in, record_at}
use Rattle.blocks.specs.Reading.{Tells}
use Rattle.calls.specs.Call.{Call, inputs_of, Reply, written, more}
use Rattle.calls.specs.Faithful.{Faithful}
use Rattle.calls.specs.Complete.{IsPath}

-- the listing's path n, which the bytes tell and which is faithful to the plain machine
pub record Told (j : Job) (n : ℕ) (bytes : List ℕ) : Type 0 where
  pub path : Path
  pub listed : IsPath j n path
  pub tells : Tells bytes n path
  pub faithful : Faithful j path

pub record Reported (j : Job) (c : Call) (r : Reply) : Type 0 where
  -- the listing's paths from the first wanted on, as many as exist and fit
  pub count : written r.answer ≡ min (records_in (inputs_of c) c.report) (length (listing j) - c.first)
  -- whether a further path exists; yes exactly if it does
  pub further : more r.answer ≡ ltb (c.first + written r.answer) (length (listing j))
  -- each record tells the path of its number
  pub records : (i : ℕ) → i < written r.answer → Told j (c.first + i) (record_at (inputs_of c) r.report i)
  -- the rest of the report stays as lent
  pub rest : let used = record_bytes (inputs_of c) * written r.answer in drop used r.report ≡ drop used c.report
  pub size : length r.report ≡ length c.report
