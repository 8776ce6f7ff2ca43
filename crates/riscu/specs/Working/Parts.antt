-- A state in the parts that the code holds it in: the registers, the memory, and where the machine is.
use Rattle.std.specs.Prelude.{◌≡◌, List, ℕ, ◌+◌}
use Rattle.words.specs.Word.{word}
use Rattle.riscu.specs.Machine.{State, start, step}
use Rattle.riscu.specs.declared.Instruction.{Instruction}
use Rattle.riscu.specs.declared.At.{At}
use Rattle.riscu.specs.declared.plain.Machine.{Machine}

abbrev pub state : At → List ℕ → List ℕ → State
state a r m = record { pc = a.pc; registers = r; memory = m; reads = a.reads }

abbrev pub onward : At → At
onward a = record { pc = word (a.pc + 4); reads = a.reads }

-- an instruction that leaves the inputs alone takes s to t
abbrev pub Leads : Instruction → State → State → Type 0
Leads i s t = (inputs : List ℕ) → t ≡ step inputs i s

-- one that leaves memory alone too takes registers r at a to r' at a'
abbrev pub Takes : Instruction → List ℕ → At → List ℕ → At → Type 0
Takes i r a r' a' = (m : List ℕ) → Leads i (state a r m) (state a' r' m)

-- a machine that starts, with memory as lent
abbrev pub Starts : Machine → Type 0
Starts s = (m : List ℕ) → state s.at s.registers m ≡ start m
