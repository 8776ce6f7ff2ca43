use mathlib.Core.Path.{refl, ◌∙◌}
use Prim.Native.Nat.{◌-◌}
use borrow.Author.Tests.{tests}
use Rattle.std.proofs.Common.{rules}
use Rattle.std.proofs.lemmas.Iterator.{YieldsList-from_range}
use Rattle.std.proofs.lemmas.Iterator.Search.{all_from_yields_List}
use Rattle.jobs.specs.Job.{zero_half, zero_halves}
use Rattle.jobs.proofs.Zeros.{each_range}
use Rattle.jobs.proofs.asking.zero_halves.Goals as goal

pub returns : goal.returns
unfolding zero_halves
returns c =
    all_from_yields_List (zero_half c.args.blocks.bytes.now) _ _ _ c.all.ensures.ran (YieldsList-from_range c.args.j c.args.e (c.args.e - c.args.j) refl refl) (λ x b q k. search (rules, tests))
    ∙ each_range _ _ _
