use mathlib.Core.Path.{refl, sym, ap, ◌∙◌}
use Prim.Native.Nat.{ℕ}
use Rattle.std.proofs.Common.{ltb-true}
use Rattle.std.proofs.lemmas.Grind.{get_or_default_zero}
use Rattle.riscu.specs.Machine.{with_input, read_next, step}
use Rattle.riscu.specs.Working.Parts.{state}
use Rattle.riscu.proofs.Joins.{join}
use Rattle.riscu.proofs.plain.ecall.Goals as goal

pub returns-in-Some : goal.returns-in-Some
unfolding step read_next
returns-in-Some c =
    let a = c.args in
    let l = c.in-Some.ensures.lookup in
    let s = state a.at a.registers.now a.memory.now in
    rw (sym l.0) (c.read_input.ensures ∙ ap (λ (v : ℕ). with_input v s) (l.1 ∙ get_or_default_zero _ _ _ (ltb-true _ _ (sym l.0))))

pub returns-in_default : goal.returns-in_default
unfolding step read_next
returns-in_default c = let l = c.in_default.ensures.lookup in rw (sym l.0) (join c.next.ensures c.put.ensures refl)
