use Rattle.std.proofs.Common.{sym, ◌∙◌, drop, ◌+◌}
use Rattle.std.proofs.Math.Seq.{take-length}
use Rattle.std.proofs.lemmas.List.{length-drop}
use Rattle.vectors.proofs.Steps.{line_found, line_last}
use Rattle.vectors.proofs.LinesIterator.next.Goals as goal

pub returns-in_default-clause-steps : goal.returns-in_default-clause-steps
returns-in_default-clause-steps c = line_last c.args.self.now.rest.now (sym c.line_feed.ensures ∙ c.in_default.is)

pub returns-clause-steps : goal.returns-clause-steps
returns-clause-steps c =
    let s = c.args.self.now.rest.now in
    rw (sym (length-drop (c.in-Some.end + 1) s), take-length (drop (c.in-Some.end + 1) s)) (line_found s c.in-Some.end (sym c.line_feed.ensures ∙ c.in-Some.is))
