-- An exploration as it begins and as it has ended.
use Rattle.std.specs.Prelude.{◌≡◌, List, map, ◌++◌, ℕ, ◌+◌, ◌-◌, ◌*◌, ◌/◌, ◌^◌, ◌≤◌, ◌<◌, ltb, length, get_or, drop}
use Rattle.boxes.specs.Boxes.{from}
use Rattle.boxes.specs.Working.Cuts.{box_in}
use Rattle.listing.specs.Group.{Job}
use Rattle.listing.specs.Listing.{listing}
use Rattle.blocks.specs.Record.{most_inputs, record_bytes, records}
use Rattle.calls.specs.Call.{Call, inputs_of, page}
use Rattle.decide.specs.declared.Limits.{Limits}
use Rattle.lockstep.specs.declared.Corners.{Corners}
use Rattle.pages.specs.declared.Window.{Window}
use Rattle.explorer.specs.Working.Held.{Fits, standing, more}
use Rattle.explorer.specs.declared.Phase.TheVariants.{AtGroup}
use Rattle.explorer.specs.declared.Standing.{Standing}

-- the lows or the highs of the intervals, and 0 past the last
abbrev pub padded_ends : ℕ → List ℕ → List ℕ
padded_ends side intervals = map (λ k. get_or intervals (2 * k + side) 0) (from 0 most_inputs)

-- the lists hold the job's box, and the page is that of the report
pub record Begins (j : Job) (m : Limits) (w : Window) (ls hs table report : List ℕ) : Type 0 where
  pub fits : Fits j m ls hs table
  pub box : box_in ls hs ≡ j.box
  pub few : m.inputs ≤ most_inputs
  pub some : 1 ≤ length report / record_bytes m.inputs
  pub end : w.end ≡ w.first + length report / record_bytes m.inputs
  pub end_fits : w.end < 2 ^ 64
  pub steps_fit : m.steps < 2 ^ 64

-- where an exploration stands at first
abbrev pub begun : Corners → Standing
begun a = standing AtGroup 0 0 0 0 a

-- the page of a call is written, and it is known whether a further path exists
pub record Finished (j : Job) (c : Call) (report : List ℕ) (s : Standing) : Type 0 where
  pub count : s.paths - c.first ≡ length (page j c)
  pub further : more s.phase ≡ ltb (c.first + length (page j c)) (length (listing j))
  pub bytes : report ≡ records c.first (page j c) ++ drop (record_bytes (inputs_of c) * length (page j c)) c.report
