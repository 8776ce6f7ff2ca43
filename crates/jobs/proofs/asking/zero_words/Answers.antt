use mathlib.Core.Path.{refl, ◌∙◌}
use Prim.Native.Nat.{◌-◌}
use borrow.Author.Tests.{tests}
use Rattle.std.proofs.Common.{rules}
use Rattle.std.proofs.lemmas.Iterator.{YieldsList-from_range}
use Rattle.std.proofs.lemmas.Iterator.Search.{all_from_yields_List}
use Rattle.jobs.specs.Job.{zero_word, zero_words}
use Rattle.jobs.proofs.Zeros.{each_range}
use Rattle.jobs.proofs.asking.zero_words.Goals as goal

pub returns : goal.returns
unfolding zero_words
returns c =
    all_from_yields_List (zero_word c.args.blocks.bytes.now c.args.block) _ _ _ c.all.ensures.ran (YieldsList-from_range c.args.i c.args.e (c.args.e - c.args.i) refl refl) (λ x b q k. search (rules, tests))
    ∙ each_range _ _ _
