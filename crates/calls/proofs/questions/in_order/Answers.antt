use mathlib.Core.Path.{ap, ◌∙◌}
use mathlib.Core.List.{List}
use Prim.Native.Nat.{ℕ}
use lib.Dec.{leb}
use borrow.Author.Tests.{tests}
use Rattle.std.proofs.Common.{rules}
use Rattle.std.proofs.lemmas.Iterator.Search.{all_from_yields_List}
use Rattle.calls.specs.Call.{box_of}
use Rattle.calls.specs.Questions.{in_order}
use Rattle.calls.proofs.Pairs.{pairs_come, in_order_all}
use Rattle.calls.proofs.questions.in_order.Goals as goal

pub returns : goal.returns
returns c =
    all_from_yields_List (λ v. leb v.low v.high) _ _ _ c.all.ensures.ran (pairs_come _ c.chunks_exact.ensures.size) (λ x b q k. search (rules, tests))
    ∙ in_order_all _
    ∙ ap (λ (v : List ℕ). in_order (box_of v)) c.chunks_exact.ensures.rest
