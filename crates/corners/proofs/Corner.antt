-- The corners decide: where the run is uniform on a group's box, the ending order over all its choices is that order over the
-- machines at the low and the high corner.
-- Assumes nothing.
use mathlib.Core.Path.{◌≡◌, refl, sym, ap, ◌∙◌}
use mathlib.Core.Logic.{inl}
use mathlib.Core.Bool.{Bool, false, not}
use mathlib.Core.List.{List, [], ◌∷◌, ◌++◌}
use mathlib.Core.Option.{Option, none, some}
use Prim.Native.Nat.{ℕ, ◌-◌}
use native.Mathlib.Omega.{arith}
use lib.Dec.{ltb}
use lib.IntN.{ℤ}
use lib.ListN.{get_or}
use Rattle.boxes.specs.Boxes.{Choice, Inside}
use Rattle.boxes.specs.Working.Cuts.{Proper, OneInput}
use Rattle.boxes.proofs.OneInput.{fixed_corner, low_corner, high_corner, one_input_constant}
use Rattle.boxes.proofs.Corners.{corner_pieces_lem}
use Rattle.riscu.specs.Machine.{State, reg, offset, fetch}
use Rattle.riscu.specs.declared.Operation.{Operation}
use Rattle.riscu.specs.declared.Operation.TheVariants.{Add, Sub, Mul, Divu, Remu, Sltu}
use Rattle.riscu.specs.declared.Instruction.{Instruction}
use Rattle.riscu.specs.declared.Instruction.TheVariants.{Lui, Immediate, Register, Ld, Sd, Branch, Jal, Jalr, Ecall}
use Rattle.std.specs.Prelude.{Option as Maybe, Some, None}
use Rattle.listing.specs.Group.{Job, Group, after, sort_of, sorting_of, operand, class_of, View, view_of}
use Rattle.listing.specs.Ending.{Point, ◌⇒◌, first, bad_address, operand_open, both_open, two_open, far_apart}
use Rattle.listing.specs.Ending.{operation_points, operand_points, address_points, points, needs, end_at, end_by, end_of}
use Rattle.listing.specs.declared.Operand.{Operand}
use Rattle.listing.specs.declared.Operand.TheVariants.{InRegister, Constant}
use Rattle.listing.specs.declared.Sorting.{Sorting}
use Rattle.listing.specs.declared.Sorting.TheVariants.{Operates, Compares, Nothing}
use Rattle.listing.specs.declared.End.{End}
use Rattle.listing.specs.declared.End.TheVariants.{TraceFull}
use Rattle.corners.proofs.Tame.{sort_one_input}
use Rattle.corners.proofs.Uniform.{WordIn, WordsIn, sorting_words, operand_one, operand_word, class_uniform}
use Rattle.corners.proofs.Uniform.{whole_after, uniform_after}
use Rattle.listing.proofs.First.{otherwise, first_append, first_same}
use Rattle.corners.proofs.Followed.{closed, operand_closed, not_both, points_followed}
use Rattle.riscu.specs.Working.Whole.{Whole}
use Rattle.corners.specs.Working.Smooth.{EitherOpen, Same, OneSame, Settled}
use Rattle.corners.specs.Working.Good.{Good, input_of, corners_of}
use Rattle.corners.specs.Working.Tags.{tags_at}
use Rattle.corners.specs.Working.Uniform.{Uniform}

-- Two lists of points come to the same: test by test, up to the first that applies.
record Agree (ps qs : List Point) : Type 0 where
  agrees : first ps ≡ first qs

done : {ps : List Point} → Agree ps ps
done = record { agrees = refl }

then : {x : End} {t u : Bool} {ps qs : List Point} → t ≡ u → (t ≡ false → Agree ps qs) → Agree ((t ⇒ x) ∷ ps) ((u ⇒ x) ∷ qs)
then {x} {t} {u} {ps} {qs} e h = record { agrees = first_same x t ps qs e (λ n. (h n).agrees) }

append_agrees : (ps qs : List Point) {rs ts : List Point} → Agree ps qs → (first ps ≡ none → Agree rs ts) → Agree (ps ++ rs) (qs ++ ts)
unfolding otherwise
append_agrees ps qs {rs} {ts} e h = record { agrees = first_append ps rs ∙ go (first ps) refl ∙ sym (first_append qs ts) }
  where
    go : (o : Option End) → first ps ≡ o → otherwise (first ps) (first rs) ≡ otherwise (first qs) (first ts)
    go (some x) d = rw (← e.agrees, d)
    go none d = rw (← e.agrees, d) (h d).agrees

module _ (j : Job) (g : Group) (good : Good j g) where
  proper : Proper g.box
  proper = good.sound.proper

  pub good_whole : (c : Choice) → Inside c g.box → Whole (after j g.steps c)
  good_whole = whole_after j g.box good.sound g.steps

  pub good_uniform : Uniform g.box (after j g.steps) (tags_at j g.box g.steps)
  good_uniform = uniform_after j g.box good.sound g.steps good.smooth

  module _ {i : ℕ} (f : State → ℕ) (o : OneInput g.box i (λ c. f (after j g.steps c))) where
    pub open_agrees : (view_of j g).is_open f ≡ (corners_of j g).is_open f
    open_agrees = ap not (fixed_corner g.box proper o)

    pub lowest_agrees : (view_of j g).lowest f ≡ (corners_of j g).lowest f
    lowest_agrees = low_corner g.box proper o

    pub highest_agrees : (view_of j g).highest f ≡ (corners_of j g).highest f
    highest_agrees = high_corner g.box proper o

  register : (r : ℕ) → OneInput g.box (get_or (tags_at j g.box g.steps).registers r 0) (λ c. reg r (after j g.steps c))
  register r = good_uniform.registers.one r

  open_at : (r : ℕ) → (view_of j g).is_open (reg r) ≡ (corners_of j g).is_open (reg r)
  open_at r = open_agrees (reg r) (register r)

  value : (r : ℕ) → (view_of j g).lowest (reg r) ≡ (corners_of j g).lowest (reg r)
  value r = lowest_agrees (reg r) (register r)

  operand_opens : (a : Operand) → operand_open (view_of j g) a ≡ operand_open (corners_of j g) a
  operand_opens (InRegister r) = open_at r
  operand_opens (Constant n) = refl

  both : (a b : Operand) → both_open (view_of j g) a b ≡ both_open (corners_of j g) a b
  both a b = cc (operand_opens a, operand_opens b)

  two : (a b : Operand) → two_open (view_of j g) a b ≡ two_open (corners_of j g) a b
  two a b = cc (both a b)

  -- with one operand fixed
  quotient : (op : Operation) (a b : Operand) → WordIn a → WordIn b
      → OneSame (EitherOpen op) g.box (λ c. operand a (after j g.steps c).registers) (λ c. operand b (after j g.steps c).registers)
      → far_apart (view_of j g) op a b ≡ far_apart (corners_of j g) op a b
  quotient op a b wa wb o =
      let q : State → ℕ = λ s. sort_of op (operand a s.registers) (operand b s.registers) in
      let one = operand_one proper good_whole good_uniform in
      let word = operand_word proper good_whole good_uniform in
      let n = sort_one_input g.box proper (one a) (one b) (λ c m. (word a wa c m, word b wb c m)) op o in
      rw (lowest_agrees q n, highest_agrees q n)

  -- with the base fixed
  address : (r : ℕ) (imm : ℤ) → Same g.box (λ c. reg r (after j g.steps c))
      → bad_address ((view_of j g).lowest (offset r imm)) ≡ bad_address ((corners_of j g).lowest (offset r imm))
  address r imm s =
      let o : OneInput g.box 0 (λ c. offset r imm (after j g.steps c)) = one_input_constant g.box (λ c d m n. cc (s c d m n)) in
      cc (lowest_agrees (offset r imm) o)

  operation_agrees : (op : Operation) (a b : Operand) → WordIn a → WordIn b
      → Agree (operation_points (view_of j g) op a b) (operation_points (corners_of j g) op a b)
  unfolding operation_points
  operation_agrees Add a b wa wb = then (both a b) (λ n. done)
  operation_agrees Sub a b wa wb = then (two a b) (λ n. done)
  operation_agrees Mul a b wa wb =
      then (both a b) (λ n. then (quotient Mul a b wa wb (not_both j g a b tt n)) (λ _. done))
  operation_agrees Divu a b wa wb = then (operand_opens b) (λ n. done)
  operation_agrees Remu a b wa wb =
      then (operand_opens b) (λ n. then (quotient Remu a b wa wb (inl (operand_closed j g b n))) (λ _. done))
  operation_agrees Sltu a b wa wb = then (two a b) (λ n. done)

  operands_agree : (x : Sorting) → WordsIn x → Agree (operand_points (view_of j g) x) (operand_points (corners_of j g) x)
  unfolding operand_points
  operands_agree (Operates op a b) (wa, wb) = operation_agrees op a b wa wb
  operands_agree (Compares a b) w = then (two a b) (λ n. done)
  operands_agree Nothing w = done

  access_agrees : (r : ℕ) (imm : ℤ)
      → Agree (address_points (view_of j g) (Ld 0 r imm)) (address_points (corners_of j g) (Ld 0 r imm))
  unfolding address_points
  access_agrees r imm = then (open_at r) (λ n. then (address r imm (closed j g (reg r) n)) (λ _. done))

  address_agrees : (i : Instruction) → Agree (address_points (view_of j g) i) (address_points (corners_of j g) i)
  unfolding address_points
  address_agrees (Lui rd imm) = done
  address_agrees (Immediate op rd rs1 imm) = done
  address_agrees (Register op rd rs1 rs2) = done
  address_agrees (Ld rd rs1 imm) = access_agrees rs1 imm
  address_agrees (Sd rs1 rs2 imm) = access_agrees rs1 imm
  address_agrees (Branch on rs1 rs2 imm) = done
  address_agrees (Jal rd imm) = done
  address_agrees (Jalr rd rs1 imm) = then (open_at rs1) (λ n. done)
  address_agrees Ecall =
      then (cc (open_at 17, value 17, open_at 10, open_at 11, open_at 12)) (λ _.
      then (cc (value 17, value 10, value 12)) (λ _.
      then (cc (value 17, value 11)) (λ _.
      then (cc (value 17)) (λ _. done))))

  points_agree : (i : Instruction) → Agree (points (view_of j g) i) (points (corners_of j g) i)
  unfolding points
  points_agree i =
      append_agrees (address_points (view_of j g) i) (address_points (corners_of j g) i) (address_agrees i)
      (λ _. operands_agree (sorting_of i) (sorting_words i))

  -- the class of an instruction whose operands are settled, and its pieces
  pub class_one : (i : Instruction) → Settled g.box (after j g.steps) i
      → OneInput g.box (input_of j g i) (λ c. class_of i (after j g.steps c))
  class_one i h = class_uniform proper good_whole good_uniform i h

  pub pieces_agree : (i : Instruction) → Settled g.box (after j g.steps) i → (view_of j g).pieces_of i ≡ (corners_of j g).pieces_of i
  pieces_agree i h =
      sym (corner_pieces_lem (λ c. class_of i (after j g.steps c)) (input_of j g i) _ g.box proper (class_one i h)
      (omega (arith, good.sound.inputs (input_of j g i))) (omega arith) (omega arith))

  at_agrees : (d : Maybe Instruction) → end_at j g (view_of j g) d ≡ end_at j g (corners_of j g) d
  unfolding end_at needs
  at_agrees None = refl
  at_agrees (Some i) =
      let full : View → List Point = λ v. (ltb (j.entries - g.used) (needs g v i) ⇒ TraceFull) ∷ [] in
      (append_agrees (points (view_of j g) i) (points (corners_of j g) i) {rs = full (view_of j g)} {ts = full (corners_of j g)} (points_agree i)
      (λ n. then (cc (pieces_agree i (points_followed j g i n).0)) (λ _. done))).agrees

  -- the corner law of the ending order
  pub end_agrees : end_of j g ≡ end_by j g (corners_of j g)
  unfolding end_by
  end_agrees = rw (at_agrees (fetch j.code (view_of j g).pc))
