-- A step by the instruction of its row, and a run by its steps. Assumes nothing.
use mathlib.Core.Path.{◌≡◌, sym, ap, ◌∙◌}
use mathlib.Core.List.{List}
use Prim.Native.Nat.{ℕ, ◌+◌}
use native.Mathlib.Numerals.{add-one}
use Rattle.std.specs.Prelude.{Option, Some, None}
use Rattle.riscu.specs.Machine.{State, step, fetch, step_decoded, run}
use Rattle.riscu.specs.declared.Instruction.{Instruction}

-- where it is known what a row's word is: an instruction, or none
pub of_row : {d : Option Instruction} {i : Instruction} {t : State} (inputs : List ℕ) (s : State) → d ≡ Some i → t ≡ step inputs i s
    → t ≡ step_decoded inputs d s
unfolding step_decoded
of_row inputs s e h = h ∙ ap (λ (d : Option Instruction). step_decoded inputs d s) (sym e)

pub of_none : {d : Option Instruction} (inputs : List ℕ) (s : State) → d ≡ None → s ≡ step_decoded inputs d s
unfolding step_decoded
of_none inputs s e = ap (λ (d : Option Instruction). step_decoded inputs d s) (sym e)

pub one_more : (code inputs : List ℕ) (s : State) (k : ℕ) (t u : State) → t ≡ run code inputs k s
    → u ≡ step_decoded inputs (fetch code t.pc) t → u ≡ run code inputs (k + 1) s
unfolding run
one_more code inputs s k t u e h = rw add-one (h ∙ ap (λ (v : State). step_decoded inputs (fetch code v.pc) v) e)
