-- A turn that ends the group at hand: its path is the next of the listing.
-- Assumes nothing.
use mathlib.Core.Path.{◌≡◌, refl, sym, ap, ◌∙◌}
use mathlib.Core.List.{List, [], ◌∷◌, ◌++◌}
use Prim.Native.Nat.{ℕ, ◌+◌, ◌<◌}
use native.Mathlib.Omega.{arith}
use lib.ListN.{length, take, length-append}
use lib.Seq.{take_at}
use Rattle.listing.specs.Group.{Job}
use Rattle.listing.specs.Listing.{Path, path_of, listing}
use Rattle.listing.specs.declared.End.{End}
use Rattle.forks.specs.Working.Turn.{running, resting, Turn, ending, state_of}
use Rattle.forks.proofs.Positions.{reached_moves, paths_first}
use Rattle.decide.proofs.Says.{says_ended}
use Rattle.decide.specs.declared.Limits.{Limits}
use Rattle.decide.specs.declared.Decision.TheVariants.{Ended}
use Rattle.explorer.specs.Working.Held.{Lists, group_of, forks_of, decision_on, at_group, Held, ended, listed, work}
use Rattle.explorer.specs.declared.Phase.TheVariants.{AtGroup}
use Rattle.explorer.specs.declared.Standing.{Standing}
use Rattle.boxes.proofs.Lists.{not_both}
use Rattle.explorer.proofs.Stands.{stands, turned, lighter, work_running, work_resting}
use Rattle.corners.specs.Working.Good.{corners_of}

-- the paths of an engine between two groups are the first of the listing
pub first_paths : (j : Job) {ps : List Path} (n : ℕ) → n ≡ length ps → (rest : List Path) × (listing j ≡ ps ++ rest)
    → take n (listing j) ≡ ps
first_paths j {ps} n e (rest, d) = ap (take n) d ∙ take_at ps rest n (sym e)

module _ {j : Job} {m : Limits} {x : Lists} {s : Standing} (h : Held j m (listed j s) x s) (e : s.phase ≡ AtGroup) {end : End}
    (d : decision_on j.code m x s ≡ Ended end) where
  -- the path that ends here
  abbrev pub here : Path
  here = path_of (group_of x s) (corners_of j (group_of x s)) end

  turn : Turn j (running (listed j s) (group_of x s) (forks_of x s)) (resting (listed j s ++ (here ∷ [])) (group_of x s) (forks_of x s))
  turn = ending (says_ended (stands h e) d)

  more_paths : s.paths + 1 ≡ length (listed j s ++ (here ∷ []))
  more_paths = rw length-append (omega (arith, h.count))

  pub listed_ended : listed j (ended s) ≡ listed j s ++ (here ∷ [])
  unfolding state_of
  listed_ended =
      let (n, q) = reached_moves h.fits.sound (turned h e turn) in
      first_paths j (s.paths + 1) more_paths (paths_first j h.fits.sound n q).0

  pub held_ended : Held j m (listed j (ended s)) x (ended s)
  held_ended = rw listed_ended (record {
    fits = h.fits;
    reached = turned h e turn;
    corners = λ z. not_both refl (ap at_group z);
    count = more_paths;
  })

  pub work_ended : work j x (ended s) < work j x s
  unfolding state_of
  work_ended = omega (arith, lighter h e turn, work_running j x s e, work_resting j x (ended s) refl)
