use lib.ListN.{length}
use Prim.Native.Nat.{◌/◌}
use Rattle.std.specs.Iterator.Adapters.{enumerate_source, enumerate_count}
use Rattle.calls.specs.Call.{box_of}
use Rattle.writing.specs.Form.{stored_inputs}
use Rattle.writing.proofs.Inputs.{Storing}
use Rattle.writing.proofs.value_words.put_inputs.Given as goal

abbrev pub invariant-loop-i : goal.invariant-loop-i
invariant-loop-i l =
    let n = length l.intervals / 2 in
    Storing n (stored_inputs n 0 (box_of l.intervals) l.initial.words) l.words (enumerate_count l.i-iterator) (enumerate_source l.i-iterator)
