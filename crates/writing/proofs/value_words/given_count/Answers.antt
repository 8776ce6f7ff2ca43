use mathlib.Core.Path.{ap, ◌∙◌}
use borrow.Author.Tests.{tests}
use Rattle.std.proofs.Common.{rules}
use Rattle.writing.specs.Form.{given_of}
use Rattle.writing.proofs.Given.{last_given, counted_back}
use Rattle.writing.proofs.value_words.given_count.Goals as goal

pub returns : goal.returns
returns c =
    counted_back c.rposition.result _ c.map_or.ensures (λ i p. search (rules, tests))
    (last_given c.iter.result _ _ c.rposition.result c.rposition.ensures.ran (λ x q k. search (rules, tests)) (λ x q k. search (rules, tests)))
    ∙ ap given_of c.iter.ensures.rest
