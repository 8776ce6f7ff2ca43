-- Uniform runs: after smooth steps all choices of a box share pc and inputs read, and each register and memory word hangs on the
-- one input that its tag names, at most.
-- Assumes nothing.
use mathlib.Core.Path.{◌≡◌, refl, sym, ◌∙◌}
use mathlib.Core.Logic.{inl, ⊎_elim}
use mathlib.Core.Bool.{Bool, true, false, cond, ◌&&◌}
use mathlib.Core.List.{List}
use Prim.Native.Nat.{ℕ, zero, suc, ◌/◌, ◌<◌}
use native.Mathlib.Omega.{arith}
use lib.Dec.{eqb, ltb}
use lib.ListN.{length, get_or, set, length-set, length-replicate}
use Rattle.boxes.specs.Boxes.{Choice, Box, lows, highs, Inside, Within}
use Rattle.boxes.specs.Working.Cuts.{Proper, OneInput}
use Rattle.boxes.proofs.Lists.{by_test}
use Rattle.boxes.proofs.Places.{get_d_set}
use Rattle.boxes.proofs.Choices.{lows_inside, inside_at, inside_length}
use Rattle.boxes.proofs.OneInput.{one_input_constant, one_input_within}
use Rattle.words.specs.Word.{size, widen}
use Rattle.riscu.specs.Machine.{State, reg, put_in, put, next, following, operate, offset, fetch, step, read_input, read_next, step_decoded}
use Rattle.riscu.specs.Machine.{run}
use Rattle.riscu.specs.declared.Operation.{Operation}
use Rattle.riscu.specs.declared.Condition.TheVariants.{Equal}
use Rattle.riscu.specs.declared.Instruction.{Instruction}
use Rattle.riscu.specs.declared.Instruction.TheVariants.{Lui, Immediate, Register, Ld, Sd, Branch, Jal, Jalr, Ecall}
use Rattle.std.specs.Prelude.{Some}
use Rattle.riscu.proofs.Whole.{widen_word, start_whole, run_whole}
use Rattle.listing.specs.Group.{Job, after, sort_of, comparison, sorting_of, operand, class_by, class_of}
use Rattle.listing.specs.declared.Operand.{Operand}
use Rattle.listing.specs.declared.Operand.TheVariants.{InRegister, Constant}
use Rattle.listing.specs.declared.Sorting.{Sorting}
use Rattle.listing.specs.declared.Sorting.TheVariants.{Operates, Compares, Nothing}
use Rattle.corners.proofs.Operations.{taken_same, class_itself, result_itself, comparison_itself}
use Rattle.corners.proofs.Tame.{tag_of, one_input_cong, one_input_number, sort_one_input, comparison_one_input, result_one_input}
use Rattle.riscu.specs.Working.Whole.{Whole}
use Rattle.corners.specs.Working.Smooth.{Same, OneSame, PairSettled, OperandsSettled, Settled, Smooth}
use Rattle.corners.specs.Working.Tags.{Tags, to_register, tag_in, tag_step, tag_by, class_tag, tag_decoded, tags_at}
use Rattle.corners.specs.Working.Uniform.{Elements, Uniform}
use Rattle.corners.specs.Working.Good.{Sound}

-- the constants that an instruction sorts by are words
abbrev pub WordIn : Operand → Type 0
WordIn (InRegister r) = Unit {0}
WordIn (Constant n) = n < size

abbrev pub WordsIn : Sorting → Type 0
WordsIn (Operates op x y) = WordIn x × WordIn y
WordsIn (Compares x y) = WordIn x × WordIn y
WordsIn Nothing = Unit {0}

pub sorting_words : (i : Instruction) → WordsIn (sorting_of i)
unfolding sorting_of
sorting_words (Lui rd imm) = tt
sorting_words (Immediate op rd rs1 imm) = by_test (eqb rd 0) (λ z. rw z tt) (λ z. rw z (tt, widen_word imm))
sorting_words (Register op rd rs1 rs2) = by_test (eqb rd 0) (λ z. rw z tt) (λ z. rw z (tt, tt))
sorting_words (Ld rd rs1 imm) = tt
sorting_words (Sd rs1 rs2 imm) = tt
sorting_words (Branch Equal rs1 rs2 imm) = (tt, tt)
sorting_words (Jal rd imm) = tt
sorting_words (Jalr rd rs1 imm) = tt
sorting_words Ecall = tt

either : {b : Box} {f g : Choice → ℕ} {i j : ℕ} (t : Bool) → OneInput b i f → OneInput b j g
    → OneInput b (cond t i j) (λ c. cond t (f c) (g c))
either true p q = p
either false p q = q

cond_same : {A : Type 0} (t : Bool) (x : A) → cond t x x ≡ x
cond_same true x = refl
cond_same false x = refl

-- an element written, at one place for all choices
elements_set : {n i : ℕ} {b : Box} {ts : List ℕ} {l : Choice → List ℕ} {p v : Choice → ℕ} (q : ℕ)
    → ((c : Choice) → Inside c b → length (l c) ≡ n)
    → ((c : Choice) → Inside c b → p c ≡ q) → OneInput b i v → Elements n b ts l → Elements n b (set ts q i) (λ c. set (l c) (p c) (v c))
elements_set {n} {i} {b} {ts} {l} {p} {v} q len at o e =
    record {
      count = length-set ts q i ∙ e.count;
      one = λ k.
          rw (get_d_set ts q i k e.count)
          (one_input_cong b (λ c h. sym (rw (at c h) (get_d_set (l c) q (v c) k (len c h)))) (either (eqb k q && ltb q n) o (e.one k)));
    }

elements_put : {n i : ℕ} {b : Box} {ts : List ℕ} {l : Choice → List ℕ} {v : Choice → ℕ} (r : ℕ)
    → ((c : Choice) → Inside c b → length (l c) ≡ n)
    → OneInput b i v → Elements n b ts l → Elements n b (put_in r i ts) (λ c. put_in r (v c) (l c))
elements_put r len o e = by_test (eqb r 0) (λ t. rw t e) (λ t. rw t (elements_set r len (λ c h. refl) o e))

uniform_cong : {b : Box} {s s' : Choice → State} {t : Tags} → ((c : Choice) → Inside c b → s c ≡ s' c) → Uniform b s t → Uniform b s' t
uniform_cong {b} {s} {s'} e u =
    record {
      pc = λ c d m n. cc (e c m, e d n, u.pc c d m n);
      reads = λ c d m n. cc (e c m, e d n, u.reads c d m n);
      registers = record { count = u.registers.count; one = λ k. one_input_cong b (λ c m. cc (e c m)) (u.registers.one k) };
      memory = record { count = u.memory.count; one = λ k. one_input_cong b (λ c m. cc (e c m)) (u.memory.one k) };
    }

elements_within : {n : ℕ} {a b : Box} {ts : List ℕ} {l : Choice → List ℕ} → Within a b → Elements n b ts l → Elements n a ts l
elements_within {a = a} {b = b} w e = record { count = e.count; one = λ k. one_input_within b a w (e.one k) }

-- on a part of the box
pub uniform_within : {a b : Box} {s : Choice → State} {t : Tags} → Within a b → Uniform b s t → Uniform a s t
uniform_within w u =
    record {
      pc = λ c d m n. u.pc c d (w c m) (w d n);
      reads = λ c d m n. u.reads c d (w c m) (w d n);
      registers = elements_within w u.registers;
      memory = elements_within w u.memory;
    }

module _ {b : Box} (proper : Proper b) {s : Choice → State} {t : Tags} (whole : (c : Choice) → Inside c b → Whole (s c))
    (u : Uniform b s t) where
  at_low : {A : Type 0} {f : Choice → A} → Same b f → (c : Choice) → Inside c b → f c ≡ f (lows b)
  at_low e c h = e c (lows b) h (lows_inside b proper)

  next_pc : Same b (λ c. following (s c))
  next_pc c d m n = cc (u.pc c d m n)

  -- a register written, a memory word written, and a state with just a register written
  written : (r : ℕ) {i : ℕ} {v : Choice → ℕ} → OneInput b i v
      → Elements 32 b (put_in r i t.registers) (λ c. put_in r (v c) (s c).registers)
  written r o = elements_put r (λ c h. (whole c h).registers.count) o u.registers

  stored : {i : ℕ} {k v : Choice → ℕ} → Same b k → OneInput b i v
      → Elements 512 b (set t.memory (k (lows b)) i) (λ c. set (s c).memory (k c) (v c))
  stored {k} e o = elements_set (k (lows b)) (λ c h. (whole c h).memory.count) (at_low e) o u.memory

  put_uniform : (r : ℕ) {i : ℕ} {v p : Choice → ℕ} → OneInput b i v → Same b p
      → Uniform b (λ c. record { pc = p c; registers = put r (v c) (s c); memory = (s c).memory; reads = (s c).reads }) (to_register r i t)
  put_uniform r o p = record { pc = p; reads = u.reads; registers = written r o; memory = u.memory }

  constant : {v : Choice → ℕ} → Same b v → OneInput b 0 v
  constant = one_input_constant b

  -- an operand hangs on the input that its tag names, and is a word
  pub operand_one : (x : Operand) → OneInput b (tag_in x t.registers) (λ c. operand x (s c).registers)
  operand_one (InRegister r) = u.registers.one r
  operand_one (Constant n) = constant (λ c d m n. refl)

  pub operand_word : (x : Operand) → WordIn x → (c : Choice) → Inside c b → operand x (s c).registers < size
  operand_word (InRegister r) w c h = (whole c h).registers.words r
  operand_word (Constant n) w c h = w

  -- a class or a result of two operands: of one register twice it is a number n
  pair_one : {E I : Type 0} {i : ℕ} (h : ℕ → ℕ → ℕ) (n : ℕ) (x y : Operand)
      → (OneSame E b (λ c. operand x (s c).registers) (λ c. operand y (s c).registers)
      → OneInput b i (λ c. h (operand x (s c).registers) (operand y (s c).registers)))
      → (I → (c : Choice) → Inside c b → h (operand x (s c).registers) (operand x (s c).registers) ≡ n)
      → PairSettled b s E I x y → OneInput b i (λ c. h (operand x (s c).registers) (operand y (s c).registers))
  pair_one h n x y p q = ⊎_elim p (λ (k, z). one_input_number n b (λ c m. rw (← z) (q k c m)))

  -- an operation into a register; register 0 takes none
  operated : (op : Operation) (rd : ℕ) (x y : Operand) {j : ℕ} → OneInput b j (λ c. operand y (s c).registers) → WordIn x → WordIn y
      → OperandsSettled b s (cond (eqb rd 0) Nothing (Operates op x y))
      → Same b (λ c. class_by (cond (eqb rd 0) Nothing (Operates op x y)) (s c).registers)
      → Uniform b (λ c. next (s c) (put rd (operate op (operand x (s c).registers) (operand y (s c).registers)) (s c)) (s c).memory)
      (to_register rd (tag_of b (λ c. operand x (s c).registers) (tag_in x t.registers) j) t)
  unfolding class_by
  operated op rd x y second p q o e =
      by_test (eqb rd 0)
      (λ z. rw z (record { pc = next_pc; reads = u.reads; registers = u.registers; memory = u.memory }))
      (λ z. put_uniform rd (pair_one (operate op) 0 x y
      (λ k. result_one_input b proper (operand_one x) second (λ c m. (operand_word x p c m, operand_word y q c m)) op k (rw z at e))
      (λ k c m. result_itself op k (operand x (s c).registers) (operand_word x p c m))
      (rw z at o)) next_pc)

  pub step_uniform : (i : Instruction) → Settled b s i → Same b (λ c. class_of i (s c))
      → Uniform b (λ c. step c i (s c)) (tag_step (lows b) i (s (lows b)) (s (highs b)) t)
  unfolding step read_next tag_step sorting_of class_of
  step_uniform (Lui rd imm) h e = put_uniform rd (constant (λ c d m n. refl)) next_pc
  step_uniform (Immediate op rd rs1 imm) h e =
      rw (← cond_same (eqb (reg rs1 (s (lows b))) (reg rs1 (s (highs b)))) (get_or t.registers rs1 0))
      (operated op rd (InRegister rs1) (Constant (widen imm)) (one_input_constant b (λ c d m n. refl)) tt (widen_word imm) h.1 e)
  step_uniform (Register op rd rs1 rs2) h e = operated op rd (InRegister rs1) (InRegister rs2) (u.registers.one rs2) tt tt h.1 e
  step_uniform (Ld rd rs1 imm) h e =
      let k : Same b (λ c. offset rs1 imm (s c) / 8) = λ c d m n. cc (h.0 c d m n) in
      put_uniform rd (one_input_cong b (λ c m. cc (at_low k c m)) (u.memory.one (offset rs1 imm (s (lows b)) / 8))) next_pc
  step_uniform (Sd rs1 rs2 imm) h e =
      record {
        pc = next_pc;
        reads = u.reads;
        registers = u.registers;
        memory = stored (λ c d m n. cc (h.0 c d m n)) (u.registers.one rs2);
      }
  step_uniform (Branch on rs1 rs2 imm) h e =
      record {
        pc = λ c d m n. cc (taken_same on (InRegister rs1) (InRegister rs2) (s c).registers (s d).registers (e c d m n), u.pc c d m n);
        reads = u.reads;
        registers = u.registers;
        memory = u.memory;
      }
  step_uniform (Jal rd imm) h e = put_uniform rd (constant next_pc) (λ c d m n. cc (u.pc c d m n))
  step_uniform (Jalr rd rs1 imm) h e = put_uniform rd (constant next_pc) (λ c d m n. cc (h.0 c d m n))
  step_uniform Ecall h e =
      let left : (c : Choice) → Inside c b → ltb (s c).reads (length c) ≡ ltb (s (lows b)).reads (length (lows b)) =
      λ c m. cc (at_low u.reads c m, inside_length b c m, inside_length b (lows b) (lows_inside b proper)) in
      by_test (ltb (s (lows b)).reads (length (lows b)))
      (λ z. rw z (uniform_cong {s = λ c. read_input c (s c)} (λ c m. rw (left c m ∙ z)) (record {
        pc = next_pc;
        reads = λ c d m n. cc (u.reads c d m n);
        registers = written 10 {v = λ c. 8} (constant (λ c d m n. refl));
        memory = stored {k = λ c. reg 11 (s c) / 8} (λ c d m n. cc (h.0 c d m n))
            (one_input_cong b (λ c m. cc (at_low u.reads c m)) (inl (λ c d m n l. l)));
      })))
      (λ z. rw z (uniform_cong {s = λ c. next (s c) (put 10 0 (s c)) (s c).memory} (λ c m. rw (left c m ∙ z))
      (put_uniform 10 {v = λ c. 0} (constant (λ c d m n. refl)) next_pc)))

  class_by_lem : (x : Sorting) → WordsIn x → OperandsSettled b s x
      → OneInput b (tag_by x (s (lows b)).registers (s (highs b)).registers t.registers) (λ c. class_by x (s c).registers)
  unfolding tag_by class_by
  class_by_lem (Operates op x y) (p, q) h =
      pair_one (sort_of op) 0 x y
      (sort_one_input b proper (operand_one x) (operand_one y) (λ c m. (operand_word x p c m, operand_word y q c m)) op)
      (λ k c m. class_itself op k (operand x (s c).registers)) h
  class_by_lem (Compares x y) (p, q) h =
      pair_one comparison 1 x y
      (comparison_one_input b proper (operand_one x) (operand_one y) (λ c m. (operand_word x p c m, operand_word y q c m)))
      (λ k c m. comparison_itself (operand x (s c).registers)) h
  class_by_lem Nothing w h = constant (λ c d m n. refl)

  pub class_uniform : (i : Instruction) → Settled b s i → OneInput b (class_tag i (s (lows b)) (s (highs b)) t) (λ c. class_of i (s c))
  unfolding class_tag class_of
  class_uniform i h = class_by_lem (sorting_of i) (sorting_words i) h.1

-- Runs.

module _ (j : Job) (b : Box) (sound : Sound j b) where
  pub whole_after : (n : ℕ) (c : Choice) → Inside c b → Whole (after j n c)
  unfolding after
  whole_after n c h =
      run_whole j.code c (λ k. omega (arith, inside_at b c h k, sound.inputs k)) (start_whole j.memory sound.memory) n

  pub after_suc : (n : ℕ) {i : Instruction} (c : Choice) → fetch j.code (after j n c).pc ≡ Some i
      → step c i (after j n c) ≡ after j (suc n) c
  unfolding after run step_decoded
  after_suc n c e = rw e

  pub uniform_start : Uniform b (after j 0) (tags_at j b 0)
  unfolding after run tags_at
  uniform_start =
      record {
        pc = λ c d m n. refl;
        reads = λ c d m n. refl;
        registers = record { count = refl; one = λ k. one_input_constant b (λ c d m n. refl) };
        memory = record { count = length-replicate {A = ℕ} 512 0; one = λ k. one_input_constant b (λ c d m n. refl) };
      }

  -- a smooth step, whatever the tags were
  pub uniform_step : (n : ℕ) (s : Smooth j b n) {t : Tags} → Uniform b (after j n) t
      → Uniform b (after j (suc n)) (tag_step (lows b) s.instruction (after j n (lows b)) (after j n (highs b)) t)
  uniform_step n s u =
      uniform_cong (λ c m. after_suc n c (s.followed.fetched c m))
      (step_uniform sound.proper (whole_after n) u s.instruction s.followed.settled s.class)

  uniform_next : (n : ℕ) → Smooth j b n → Uniform b (after j n) (tags_at j b n) → Uniform b (after j (suc n)) (tags_at j b (suc n))
  unfolding tags_at tag_decoded
  uniform_next n s u = rw (s.followed.fetched (lows b) (lows_inside b sound.proper)) (uniform_step n s u)

  -- after smooth steps
  pub uniform_after : (n : ℕ) → ((m : ℕ) → m < n → Smooth j b m) → Uniform b (after j n) (tags_at j b n)
  uniform_after zero s = uniform_start
  uniform_after (suc n) s = uniform_next n (s n (omega arith)) (uniform_after n (λ m h. s m (omega arith)))
