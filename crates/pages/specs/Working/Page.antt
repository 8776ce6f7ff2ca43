-- A path that ends where the machines at the two corners are, and the report with its record.
use Rattle.std.specs.Prelude.{cond, List, map, ℕ, ◌-◌, ◌*◌, min, max, ltb, length, get_or}
use Rattle.boxes.specs.Boxes.{from}
use Rattle.boxes.specs.Working.Cuts.{box_in}
use Rattle.riscu.specs.declared.At.{At}
use Rattle.listing.specs.Listing.{Path}
use Rattle.listing.specs.declared.End.{End}
use Rattle.blocks.specs.Record.{record_bytes}
use Rattle.blocks.specs.Working.Writing.{with_path}
use Rattle.pages.specs.declared.Window.{Window}

-- the least and the greatest that each register has at the two corners
abbrev pub leasts : List ℕ → List ℕ → List ℕ
leasts l h = map (λ r. min (get_or l r 0) (get_or h r 0)) (from 0 32)

abbrev pub greatests : List ℕ → List ℕ → List ℕ
greatests l h = map (λ r. max (get_or l r 0) (get_or h r 0)) (from 0 32)

-- the path that ends after n steps: the box's lows and highs, the registers at the corners, and where the low corner is
abbrev pub ended_path : List ℕ → List ℕ → List ℕ → List ℕ → At → ℕ → End → Path
ended_path ls hs l h a n e =
    record { end = e; pc = a.pc; steps = n; box = box_in ls hs; reads = a.reads; registers = box_in (leasts l h) (greatests l h) }

-- the bytes of a page that are written before path k, where paths have n inputs
abbrev pub filled : ℕ → Window → ℕ → ℕ
filled n w k = record_bytes n * (k - w.first)

-- the report with the record of path k in its place, where the page begins at or before it
abbrev pub page_with : Window → ℕ → Path → List ℕ → List ℕ
page_with w k p report = cond (ltb k w.first) report (with_path report (filled (length p.box) w k) k p)
