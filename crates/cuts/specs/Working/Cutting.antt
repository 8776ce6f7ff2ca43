-- The class of a choice by a run from the start, along one input; and where a function of a number leaves a value.
use Rattle.std.specs.Prelude.{◌≡◌, ◌≢◌, List, ℕ, suc, ◌<◌, ◌≤◌, set}
use Rattle.riscu.specs.Machine.{State, run, start}
use Rattle.riscu.specs.declared.Instruction.{Instruction}
use Rattle.listing.specs.Group.{class_of}
use Rattle.cuts.specs.declared.Probing.{Probing}

-- the machine after n steps on a choice whose input is x
abbrev pub reached : List ℕ → List ℕ → ℕ → List ℕ → ℕ → ℕ → State
reached code memory n c input x = run code (set c input x) n (start memory)

-- the class of an instruction there
unfoldable pub probed : List ℕ → List ℕ → ℕ → Instruction → List ℕ → ℕ → ℕ → ℕ
probed code memory n i c input x = class_of i (reached code memory n c input x)

-- the same of what the code's probes ask

abbrev pub reached_by : Probing → List ℕ → ℕ → State
reached_by p c x = reached p.code.now p.memory.now p.steps c p.input x

abbrev pub probed_by : Probing → List ℕ → ℕ → ℕ
probed_by p c x = probed p.code.now p.memory.now p.steps p.instruction c p.input x

-- f is k at lo, and is not at hi above it
pub record Starts (f : ℕ → ℕ) (k lo hi : ℕ) : Type 0 where
  pub order : lo < hi
  pub bottom : f lo ≡ k
  pub top : f hi ≢ k

-- f is k at m, from lo to below hi, and is not at the next number
pub record Turning (f : ℕ → ℕ) (k lo hi m : ℕ) : Type 0 where
  pub from_lo : lo ≤ m
  pub below_hi : m < hi
  pub here : f m ≡ k
  pub next : f (suc m) ≢ k
