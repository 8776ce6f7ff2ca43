-- `blocks::record::second_words` meets its contract: the words before 2r - 1 are written, and the pairs from register r on are what is left.
-- Assumes nothing.
use Rattle.std.proofs.Common.{◌≡◌, ◌-◌, ◌*◌, ◌∷◌, ◌++◌, length, take, drop}
use Rattle.boxes.specs.Working.Cuts.{box_in}
use Rattle.blocks.specs.Block.{payload_words}
use Rattle.blocks.specs.Record.{ends}
use Rattle.blocks.proofs.record.second_words.Given as goal

abbrev pub invariant-loop-r : goal.invariant-loop-r
invariant-loop-r l =
    (length l.words ≡ payload_words) × (take (2 * l.r - 1) l.words ++ ends (drop l.r (box_in l.lows l.highs)) ≡ l.number ∷ ends (drop 1 (box_in l.lows l.highs)))
