-- `blocks::block::check_of` meets its contract: the check of the words that are left, from s on, is the whole check.
-- Assumes nothing.
use Rattle.std.proofs.Common.{◌≡◌, ◌-◌, map, drop}
use Rattle.boxes.specs.Boxes.{from}
use Rattle.blocks.specs.Block.{payload_words, word_at, check_from, check}
use Rattle.blocks.proofs.block.check_of.Given as goal

abbrev pub invariant-loop-k : goal.invariant-loop-k
invariant-loop-k l =
    check_from l.s (map (word_at (drop l.at l.bytes)) (from l.k (payload_words - l.k))) ≡ check (map (word_at (drop l.at l.bytes)) (from 0 payload_words))
