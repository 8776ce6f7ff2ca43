-- pc stays a word, and the inputs read are at most the steps.
-- Assumes nothing.
use mathlib.Core.Bool.{Bool, true, false, cond}
use mathlib.Core.List.{List}
use Prim.Native.Nat.{ℕ, zero, suc, ◌+◌, ◌≤◌, ◌<◌}
use native.Mathlib.Omega.{arith}
use native.Mathlib.Decide.{dec_lt}
use lib.ListN.{length}
use borrow.Author.Tests.{lt-ltb, le-ltb}
use Rattle.words.specs.Word.{size, word, widen}
use Rattle.riscu.specs.Machine.{State, reg, taken, following, jump, read_next, step, fetch, step_decoded, run}
use Rattle.riscu.specs.declared.Instruction.{Instruction}
use Rattle.riscu.specs.declared.Instruction.TheVariants.{Lui, Immediate, Register, Ld, Sd, Branch, Jal, Jalr, Ecall}
use Rattle.std.specs.Prelude.{Option, Some, None}

-- of a state after one with n inputs read
record Counted (n : ℕ) (t : State) : Type 0 where
  pc_word : t.pc < size
  reads_one : t.reads ≤ n + 1

read_counted : (inputs : List ℕ) (s : State) → Counted s.reads (read_next inputs s)
unfolding read_next
read_counted inputs s =
    elim (dec_lt s.reads (length inputs)) [
      | yes h ↦ rw (lt-ltb s.reads (length inputs) h) (record { pc_word = omega arith; reads_one = omega arith })
      | no h ↦ rw (le-ltb s.reads (length inputs) (omega arith)) (record { pc_word = omega arith; reads_one = omega arith })
    ]

step_counted : (inputs : List ℕ) (i : Instruction) (s : State) → Counted s.reads (step inputs i s)
unfolding step
step_counted inputs (Lui rd imm) s = record { pc_word = omega arith; reads_one = omega arith }
step_counted inputs (Immediate op rd rs1 imm) s = record { pc_word = omega arith; reads_one = omega arith }
step_counted inputs (Register op rd rs1 rs2) s = record { pc_word = omega arith; reads_one = omega arith }
step_counted inputs (Ld rd rs1 imm) s = record { pc_word = omega arith; reads_one = omega arith }
step_counted inputs (Sd rs1 rs2 imm) s = record { pc_word = omega arith; reads_one = omega arith }
step_counted inputs (Branch on rs1 rs2 imm) s = go (taken on (reg rs1 s) (reg rs2 s))
  where
    go : (t : Bool) → Counted s.reads (jump s (cond t (word (s.pc + widen imm)) (following s)) s.registers)
    go true = record { pc_word = omega arith; reads_one = omega arith }
    go false = record { pc_word = omega arith; reads_one = omega arith }
step_counted inputs (Jal rd imm) s = record { pc_word = omega arith; reads_one = omega arith }
step_counted inputs (Jalr rd rs1 imm) s = record { pc_word = omega arith; reads_one = omega arith }
step_counted inputs Ecall s = read_counted inputs s

module _ (code inputs : List ℕ) (l : length code ≤ 1024) (s : State) (p : s.pc < size) where
  pub run_pc : (n : ℕ) → (run code inputs n s).pc < size
  unfolding run step_decoded
  run_pc zero = p
  run_pc (suc n) = go (fetch code t.pc) (run_pc n)
    where
      t : State
      t = run code inputs n s

      go : (d : Option Instruction) → t.pc < size → (step_decoded inputs d t).pc < size
      go (Some i) h = (step_counted inputs i t).pc_word
      go None h = h

  pub run_reads : (n : ℕ) → (run code inputs n s).reads ≤ s.reads + n
  unfolding run step_decoded
  run_reads zero = omega arith
  run_reads (suc n) = go (fetch code t.pc) (run_reads n)
    where
      t : State
      t = run code inputs n s

      go : (d : Option Instruction) → t.reads ≤ s.reads + n → (step_decoded inputs d t).reads ≤ s.reads + suc n
      go (Some i) h = omega (arith, (step_counted inputs i t).reads_one)
      go None h = omega arith
