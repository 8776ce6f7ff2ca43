-- `blocks::block::turned` meets its contract: the bits that a turn moves to each end are apart.
-- Assumes nothing.
use Rattle.std.proofs.Common.{arith, ◌∙◌, ◌*◌, ◌/◌, ◌%◌, ◌^◌, ◌≡◌}
use Rattle.std.proofs.lemmas.Nat.{or_shifted}
use Rattle.blocks.proofs.block.turned.Goals as goal

pub returns : goal.returns
returns c =
    let s = c.args.s in
    let low : s * 2 % 2 ^ 64 ≡ s % 2 ^ 63 * 2 = omega arith in
    c.rotate_left.ensures ∙ rw low (or_shifted (s % 2 ^ 63) 1 (s / 2 ^ 63) (omega arith))
