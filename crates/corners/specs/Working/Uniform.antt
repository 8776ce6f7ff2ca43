-- States of a box's choices: pc and inputs read are shared, and each register and memory word hangs on one input at most, which its tag names.
use Rattle.std.specs.Prelude.{◌≡◌, List, ℕ, length, get_or}
use Rattle.boxes.specs.Boxes.{Choice, Box}
use Rattle.boxes.specs.Working.Cuts.{OneInput}
use Rattle.riscu.specs.Machine.{State}
use Rattle.corners.specs.Working.Smooth.{Same}
use Rattle.corners.specs.Working.Tags.{Tags}

-- each element hangs on the input that its tag names, at most
pub record Elements (n : ℕ) (b : Box) (ts : List ℕ) (l : Choice → List ℕ) : Type 0 where
  pub count : length ts ≡ n
  pub one : (k : ℕ) → OneInput b (get_or ts k 0) (λ c. get_or (l c) k 0)

-- tags that are right on a box; on a part of it they stay so (`uniform_within`)
pub record Uniform (b : Box) (s : Choice → State) (t : Tags) : Type 0 where
  pub pc : Same b (λ c. (s c).pc)
  pub reads : Same b (λ c. (s c).reads)
  pub registers : Elements 32 b t.registers (λ c. (s c).registers)
  pub memory : Elements 512 b t.memory (λ c. (s c).memory)
