use mathlib.Core.Path.{◌∙◌}
use Rattle.words.proofs.Signs.{held_bits}
use Rattle.words.proofs.widen.Goals as goal

pub returns : goal.returns
returns c = c.cast_unsigned.ensures ∙ held_bits c.args.z c.ranges.z.sfits
