use Rattle.std.proofs.Common.{ℕ, ◌+◌, ◌-◌, ◌^◌, ◌<◌, ◌≤◌, negsuc, ap, ◌∙◌, arith, w64, le-ltb, lt-ltb}
use mir.Facts.{to_z_pos}
use Rattle.words.specs.Word.{signed}
use Rattle.words.proofs.Signs.{Half, half, half_of, less_read}
use Rattle.words.proofs.signed.Goals as goal

-- the half, and what the bits lack of all ones
known : (w n : ℕ) → (1 ≤ w) × (w ≤ 32) × (n < 2 ^ w) → Half w (half w)
known w n p = half_of w p.0 p.1

pub returns-then-n-half : goal.returns-then-n-half
unfolding signed
returns-then-n-half c =
    let a = c.args in
    let h = known a.width a.n c.requires in
    rw (lt-ltb a.n (2 ^ (a.width - 1)) (omega arith)) (to_z_pos w64 (omega arith))

pub returns-else-n-half : goal.returns-else-n-half
unfolding signed
returns-else-n-half c =
    let a = c.args in
    let h = known a.width a.n c.requires in
    rw (le-ltb a.n (2 ^ (a.width - 1)) (omega arith))
    (less_read (half a.width + half a.width - 1 - a.n) (omega arith) ∙ ap negsuc (omega arith))
