-- The listing of a report that tells some paths is what document 01 shows of them.
-- Assumes nothing.
use mathlib.Core.Path.{◌≡◌, ap}
use mathlib.Core.Bool.{Bool}
use mathlib.Core.List.{List, ◌++◌}
use Prim.Native.Nat.{ℕ, ◌+◌, ◌<◌, ◌≤◌}
use lib.ListN.{length}
use Rattle.boxes.specs.Boxes.{◌∈◌}
use Rattle.listing.specs.Listing.{Path}
use Rattle.blocks.specs.Record.{records}
use Rattle.blocks.specs.Said.{Said}
use Rattle.blocks.proofs.Reading.{Fits}
use Rattle.blocks.proofs.Said.{all_told}
use Rattle.printing.specs.Printed.{shown, listing_text}
use Rattle.printing.specs.Shown.{listing_of}

-- a report that begins with the records of some paths, each with m inputs
pub listing_told : (m top : ℕ) (rest : List ℕ) (n : ℕ) (ps : List Path) (more : Bool) → n + length ps ≤ top → ((p : Path) → p ∈ ps → (k : ℕ) → k < top → Fits k p)
    → ((p : Path) → p ∈ ps → length p.box ≡ m) → listing_text m (length ps) more (records n ps ++ rest) ≡ listing_of n ps more
listing_told m top rest n ps more l f e = ap (λ (ss : List Said). shown ss more) (all_told m top rest n ps l f e)
