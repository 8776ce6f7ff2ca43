-- What document 01 says of the listing of a job as a whole.
use Rattle.std.specs.Prelude.{◌≡◌, ◌↔◌, ℕ, ◌<◌, []}
use Rattle.std.proofs.Math.Option.{some}
use Rattle.std.proofs.Math.ListN.{get_elem?}
use Rattle.boxes.specs.Boxes.{Choice, Inside}
use Rattle.listing.specs.Group.{Job, view_of}
use Rattle.listing.specs.Follow.{SamePieces, Before}
use Rattle.listing.specs.Listing.{Path, moves, enough, listing}

-- path n of the listing is p
abbrev pub IsPath : Job → ℕ → Path → Type 0
IsPath j n p = get_elem? (listing j) n ≡ some p

pub record Complete (j : Job) : Type 0 where
  -- with no group waiting the listing is whole
  pub whole : (moves view_of j (enough j)).waiting ≡ []
  -- every choice of inputs from the starting intervals lies in exactly one path
  pub some_path : (c : Choice) → Inside c j.box → (n : ℕ) × (p : Path) × IsPath j n p × Inside c p.box
  pub one_path : (c : Choice) (m n : ℕ) (p q : Path) → IsPath j m p → IsPath j n q
      → Inside c p.box → Inside c q.box → m ≡ n
  -- two choices share a path exactly when they fell in the same piece at every fork
  pub shared : (c d : Choice) (m n : ℕ) (p q : Path) → IsPath j m p → IsPath j n q
      → Inside c p.box → Inside d q.box → (m ≡ n) ↔ SamePieces j c d
  -- the paths stand in order: pieces in rising order of the input cut, each to its end before the next
  pub order : (m n : ℕ) (p q : Path) → IsPath j m p → IsPath j n q → (m < n) ↔ Before j p.box q.box
