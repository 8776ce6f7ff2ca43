-- The sheet of a list of paths, from the paths themselves.
use Rattle.std.specs.Prelude.{ℕ}
use mathlib.Core.List.{List, flat_map}
use Rattle.listing.specs.Listing.{Path}
use Rattle.blocks.specs.Said.{said_of_all}
use Rattle.sheets.specs.Sheet.{path_lines}

-- the paths numbered from n on
abbrev pub sheet_of : ℕ → List Path → List ℕ
sheet_of n ps = flat_map path_lines (said_of_all n ps)
