-- Division by 0 as the RISC-V manual has it (document 02, No. 3): DIVU puts MAX into its register, and REMU the dividend.
-- Assumes nothing.
use mathlib.Core.Path.{◌≡◌}
use mathlib.Core.List.{List}
use Prim.Native.Nat.{ℕ}
use borrow.Author.Tests.{eq-eqb}
use Rattle.words.specs.Word.{max_word}
use Rattle.riscu.specs.Machine.{State, reg, put, next, operate, step}
use Rattle.riscu.specs.declared.Operation.TheVariants.{Divu, Remu}
use Rattle.riscu.specs.declared.Instruction.TheVariants.{Register}

module _ (inputs : List ℕ) (rd q r : ℕ) (s : State) (zero : reg r s ≡ 0) where
  pub divu_gives_max : step inputs (Register Divu rd q r) s ≡ next s (put rd max_word s) s.memory
  unfolding step operate
  divu_gives_max = rw (eq-eqb (reg r s) 0 zero)

  pub remu_gives_dividend : step inputs (Register Remu rd q r) s ≡ next s (put rd (reg q s) s) s.memory
  unfolding step operate
  remu_gives_dividend = rw (eq-eqb (reg r s) 0 zero)
