-- The table's fact: antt computes both lists and compares them, entry by entry, all 64.
use Rattle.words.specs.Working.Powers.{powers_from}
use Rattle.std.proofs.Common.{refl}
use Rattle.words.proofs.power_table.powers.Goals as goal

pub returns : goal.returns
unfolding powers_from
returns c = refl
