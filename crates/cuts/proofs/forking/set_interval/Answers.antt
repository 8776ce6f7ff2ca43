use mathlib.Core.Path.{sym}
use Rattle.boxes.proofs.TwoLists.{cut_in}
use Rattle.cuts.proofs.forking.set_interval.Goals as goal

pub returns : goal.returns
returns c =
    let a = c.args in
    sym (cut_in a.lows.now a.highs.now a.input a.low a.high)
