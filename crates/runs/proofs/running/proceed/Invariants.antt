use Rattle.riscu.specs.Machine.{run}
use Rattle.riscu.specs.Working.Parts.{state}
use mathlib.Core.Path.{◌≡◌}
use Rattle.runs.proofs.running.proceed.Given as goal

abbrev pub invariant-loop : goal.invariant-loop
invariant-loop l = state l.at l.registers l.memory ≡ run l.code l.inputs l.counter (state l.initial.at l.initial.registers l.initial.memory)
