-- What every state of the plain machine keeps.
use Rattle.std.specs.Prelude.{◌≡◌, List, ℕ, ◌<◌, length, get_or}
use Rattle.words.specs.Word.{size}
use Rattle.riscu.specs.Limits.{memory_words}
use Rattle.riscu.specs.Machine.{State, reg}

abbrev pub AllWords : List ℕ → Type 0
AllWords l = (k : ℕ) → get_or l k 0 < size

-- n words
pub record Cells (n : ℕ) (l : List ℕ) : Type 0 where
  pub count : length l ≡ n
  pub words : AllWords l

pub record Whole (s : State) : Type 0 where
  pub registers : Cells 32 s.registers
  pub memory : Cells memory_words s.memory
  pub first : reg 0 s ≡ 0
