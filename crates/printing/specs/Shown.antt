-- The listing as document 01 shows it, from the paths themselves.
use Rattle.std.specs.Prelude.{ℕ, Bool, List}
use Rattle.listing.specs.Listing.{Path}
use Rattle.blocks.specs.Said.{said_of_all}
use Rattle.printing.specs.Printed.{shown}

-- the paths numbered from n on
abbrev pub listing_of : ℕ → List Path → Bool → List ℕ
listing_of n ps more = shown (said_of_all n ps) more
