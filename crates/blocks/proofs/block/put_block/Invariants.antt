-- `blocks::block::put_block` meets its contract: the first k words of the payload are written, and the check of the others from s on is the whole check.
-- Assumes nothing.
use Rattle.std.proofs.Common.{◌≡◌, take, drop}
use Rattle.blocks.specs.Block.{check_from, check, payload}
use Rattle.blocks.specs.Working.Writing.{put}
use Rattle.blocks.proofs.Bytes.{bytes_of_all}
use Rattle.blocks.proofs.block.put_block.Given as goal

abbrev pub invariant-loop-k : goal.invariant-loop-k
invariant-loop-k l =
    (l.bytes ≡ put l.initial.bytes l.at (bytes_of_all (take l.k (payload l.words)))) × (check_from l.s (drop l.k (payload l.words)) ≡ check (payload l.words))
