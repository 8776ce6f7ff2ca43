-- A box in two lists, cut along an input.
use Rattle.std.specs.Prelude.{◌≡◌, List, ℕ, ◌<◌, length, get_or, set}
use Rattle.cuts.specs.Working.Cutting.{Starts, Turning}

-- along input x the class f is k at first, and is left on the way up
pub record Partable (f : ℕ → ℕ) (k x : ℕ) (ls hs : List ℕ) : Type 0 where
  pub paired : length ls ≡ length hs
  pub inside : x < length ls
  pub starts : Starts f k (get_or ls x 0) (get_or hs x 0)

-- cut after the edge m: the highs then, the lows being as before
pub record Parted (f : ℕ → ℕ) (k x : ℕ) (ls hs hs' : List ℕ) (m : ℕ) : Type 0 where
  pub edge : Turning f k (get_or ls x 0) (get_or hs x 0) m
  pub highs : hs' ≡ set hs x m
