-- Where a group ends with a kind up to 6, the plain machine stops with that kind for each of its choices; where it goes on, the
-- plain machine does not stop.
-- Assumes nothing.
use mathlib.Core.Path.{◌≡◌, refl, ap, subst}
use mathlib.Core.Bool.{Bool, true, false, cond, ◌||◌}
use mathlib.Core.List.{List, [], ◌∷◌, ◌++◌}
use mathlib.Core.Option.{none, some}
use Prim.Native.Nat.{ℕ, ◌+◌, ◌-◌, ◌/◌, ◌%◌, ◌≤◌, ◌<◌}
use native.Mathlib.Omega.{arith}
use lib.Dec.{eqb, ltb}
use lib.ListN.{get_or}
use lib.IntN.{ℤ}
use borrow.Author.Tests.{eq-eqb, le-ltb}
use Rattle.boxes.specs.Boxes.{Choice, Box, lows, Inside}
use Rattle.boxes.proofs.Lists.{by_test}
use Rattle.boxes.proofs.Choices.{lows_inside}
use Rattle.riscu.specs.Machine.{State, reg, offset, bad_pc, fetch}
use Rattle.riscu.specs.Decode.{decode_of}
use Rattle.riscu.specs.declared.Operation.{Operation}
use Rattle.riscu.specs.declared.Operation.TheVariants.{Add, Sub, Mul, Divu, Remu, Sltu}
use Rattle.riscu.specs.declared.Instruction.{Instruction}
use Rattle.riscu.specs.declared.Instruction.TheVariants.{Lui, Immediate, Register, Ld, Sd, Branch, Jal, Jalr, Ecall}
use Rattle.std.specs.Prelude.{Option, Some, None}
use Rattle.listing.specs.Group.{Job, Group, after, sort_of, sorting_of, operand, View, view_of}
use Rattle.listing.specs.Ending.{Point, ◌⇒◌, first, last_address, bad_address, open_at, value_at, bad_access, operand_open, both_open, two_open}
use Rattle.listing.specs.Ending.{far_apart, operation_points, operand_points, address_points, points, needs, end_at, end_by, end_of}
use Rattle.listing.specs.declared.Operand.{Operand}
use Rattle.listing.specs.declared.Operand.TheVariants.{InRegister, Constant}
use Rattle.listing.specs.declared.Sorting.{Sorting}
use Rattle.listing.specs.declared.Sorting.TheVariants.{Operates, Compares, Nothing}
use Rattle.listing.specs.Stop.{view_of_one, stop_decoded, stop_of}
use Rattle.listing.specs.Numbers.{kind_number}
use Rattle.listing.specs.declared.End.{End}
use Rattle.listing.specs.declared.End.TheVariants.{StepLimit, TraceFull, BadPc, BadWord}
use Rattle.corners.proofs.Followed.{or_false, closed, lowest_at}
use Rattle.corners.proofs.Corner.{good_uniform}
use Rattle.corners.specs.Working.Smooth.{DataAddress, Completes, Smooth}
use Rattle.corners.specs.Working.Good.{Good}

-- an end with a kind up to 6 comes from the second list if it comes from the first
record Stops (ps qs : List Point) : Type 0 where
  stops_by : (e : End) → kind_number e ≤ 6 → first ps ≡ some e → first qs ≡ some e

-- point 10 is the engine's
full : (t : Bool) → Stops ((t ⇒ TraceFull) ∷ []) []
unfolding first
full t =
    record {
      stops_by = λ e k d. by_test t
          (λ a. let b : some TraceFull ≡ some e = rw a at d in let z : TraceFull ≡ e = cc in absurd (omega (arith, ap kind_number z)))
          (λ a. rw a at d);
    }

-- a point of the engine, which does not apply to one choice, and one of the machine
engine : {x : End} {t u : Bool} {ps qs : List Point} → 6 < kind_number x → u ≡ false → (t ≡ false → Stops ps qs)
    → Stops ((t ⇒ x) ∷ ps) ((u ⇒ x) ∷ qs)
unfolding first
engine {x} {t} l q h =
    record {
      stops_by = λ e k d. by_test t
          (λ a. let b : some x ≡ some e = rw a at d in let z : x ≡ e = cc in absurd (omega (arith, ap kind_number z)))
          (λ a. rw q ((h a).stops_by e k (rw a at d)));
    }

machine : {x : End} {t u : Bool} {ps qs : List Point} → t ≡ u → Stops ps qs → Stops ((t ⇒ x) ∷ ps) ((u ⇒ x) ∷ qs)
unfolding first
machine {t} q h = record { stops_by = λ e k d. by_test t (λ a. rw (← q, a) (rw a at d)) (λ a. rw (← q, a) (h.stops_by e k (rw a at d))) }

-- Of one choice no operand is open, and a quotient is not more than 1 from itself.
module _ (s : State) where
  one_closed : (a : Operand) → operand_open (view_of_one s) a ≡ false
  one_closed (InRegister r) = refl
  one_closed (Constant n) = refl

  one_not_both : (a b : Operand) → both_open (view_of_one s) a b ≡ false
  one_not_both a b = rw (one_closed b)

  one_not_two : (a b : Operand) → two_open (view_of_one s) a b ≡ false
  one_not_two a b = rw (one_not_both a b)

  one_apart : (op : Operation) (a b : Operand) → far_apart (view_of_one s) op a b ≡ false
  one_apart op a b = let q = sort_of op (operand a s.registers) (operand b s.registers) in le-ltb (q + 1) q (omega arith)

module _ (j : Job) (g : Group) (c : Choice) (m : Inside c g.box) where
  abbrev state : State
  state = after j g.steps c

  abbrev v : View
  v = view_of j g

  is : (r : ℕ) → open_at v r ≡ false → value_at v r ≡ reg r state
  is r o = lowest_at j g (reg r) (closed j g (reg r) o) c m

  operation_stops : (op : Operation) (a b : Operand) (t : Bool)
      → Stops (operation_points v op a b ++ ((t ⇒ TraceFull) ∷ [])) (operation_points (view_of_one state) op a b)
  unfolding operation_points
  operation_stops Add a b t = engine (omega arith) (one_not_both state a b) (λ _. full t)
  operation_stops Sub a b t = engine (omega arith) (one_not_two state a b) (λ _. full t)
  operation_stops Mul a b t =
      engine (omega arith) (one_not_both state a b) (λ _. engine (omega arith) (one_apart state Mul a b) (λ _. full t))
  operation_stops Divu a b t = engine (omega arith) (one_closed state b) (λ _. full t)
  operation_stops Remu a b t =
      engine (omega arith) (one_closed state b) (λ _. engine (omega arith) (one_apart state Remu a b) (λ _. full t))
  operation_stops Sltu a b t = engine (omega arith) (one_not_two state a b) (λ _. full t)

  operands_stop : (x : Sorting) (t : Bool) → Stops (operand_points v x ++ ((t ⇒ TraceFull) ∷ [])) (operand_points (view_of_one state) x)
  unfolding operand_points
  operands_stop (Operates op a b) t = operation_stops op a b t
  operands_stop (Compares a b) t = engine (omega arith) (one_not_two state a b) (λ _. full t)
  operands_stop Nothing t = full t

  access : (r : ℕ) (imm : ℤ) → open_at v r ≡ false → bad_access v r imm ≡ bad_access (view_of_one state) r imm
  access r imm o =
      let s = closed j g (reg r) o in
      cc (lowest_at j g (offset r imm) (λ c d m n. cc (s c d m n)) c m)

  points_stop : (i : Instruction) (t : Bool) → Stops (points v i ++ ((t ⇒ TraceFull) ∷ [])) (points (view_of_one state) i)
  unfolding points address_points sorting_of
  points_stop (Lui rd imm) t = operands_stop Nothing t
  points_stop (Immediate op rd rs1 imm) t = operands_stop (sorting_of (Immediate op rd rs1 imm)) t
  points_stop (Register op rd rs1 rs2) t = operands_stop (sorting_of (Register op rd rs1 rs2)) t
  points_stop (Ld rd rs1 imm) t = engine (omega arith) refl (λ o. machine (access rs1 imm o) (operands_stop Nothing t))
  points_stop (Sd rs1 rs2 imm) t = engine (omega arith) refl (λ o. machine (access rs1 imm o) (operands_stop Nothing t))
  points_stop (Branch on rs1 rs2 imm) t = operands_stop (sorting_of (Branch on rs1 rs2 imm)) t
  points_stop (Jal rd imm) t = operands_stop Nothing t
  points_stop (Jalr rd rs1 imm) t = engine (omega arith) refl (λ _. operands_stop Nothing t)
  points_stop Ecall t =
      let rest = operands_stop Nothing t in
      engine (omega arith) (by_test (eqb (reg 17 state) 63) (λ z. rw z) (λ z. rw z)) (λ o.
      let (p, q) = or_false (open_at v 17) _ o in
      let call = is 17 p in
      by_test (eqb (value_at v 17) 63)
      (λ read.
      let (s, o₁₂) = or_false (open_at v 10 || open_at v 11) (open_at v 12) (rw read at q) in
      let (o₁₀, o₁₁) = or_false (open_at v 10) (open_at v 11) s in
      machine (cc (call, is 10 o₁₀, is 12 o₁₂)) (machine (cc (call, is 11 o₁₁)) (machine (cc call) rest)))
      (λ read. machine (rw (← call, read)) (machine (rw (← call, read)) (machine (cc call) rest))))

  -- the machine stops where its group ends
  pub end_stops : (e : End) → Good j g → end_of j g ≡ some e → kind_number e ≤ 6 → stop_of j.code state ≡ some e
  unfolding end_by stop_of end_at stop_decoded
  end_stops e good d k =
      subst
      (λ (p : ℕ). cond (bad_pc j.code p) (some BadPc) (stop_decoded (fetch j.code p) state) ≡ some e)
      ((good_uniform j g good).pc (lows g.box) c (lows_inside g.box good.sound.proper) m)
      (go (eqb g.steps j.limit) (bad_pc j.code v.pc) (fetch j.code v.pc) d)
    where
      go : (l b : Bool) (i : Option Instruction) → cond l (some StepLimit) (cond b (some BadPc) (end_at j g v i)) ≡ some e
          → cond b (some BadPc) (stop_decoded i state) ≡ some e
      go true b i d = let z : StepLimit ≡ e = cc in absurd (omega (arith, ap kind_number z))
      go false true i d = d
      go false false None d = d
      go false false (Some i) d = (points_stop i (ltb (j.entries - g.used) (needs g v i))).stops_by e k d

-- an instruction that the machine completes does not stop it

good_address : (a : ℕ) → DataAddress a → bad_address a ≡ false
good_address a (e, l) = rw (eq-eqb (a % 8) 0 e, le-ltb last_address a l)

module _ (s : State) where
  operation_goes_on : (op : Operation) (a b : Operand) → first (operation_points (view_of_one s) op a b) ≡ none
  unfolding operation_points first
  operation_goes_on Add a b = rw (one_not_both s a b)
  operation_goes_on Sub a b = rw (one_not_two s a b)
  operation_goes_on Mul a b = rw (one_not_both s a b, one_apart s Mul a b)
  operation_goes_on Divu a b = rw (one_closed s b)
  operation_goes_on Remu a b = rw (one_closed s b, one_apart s Remu a b)
  operation_goes_on Sltu a b = rw (one_not_two s a b)

  operands_go_on : (x : Sorting) → first (operand_points (view_of_one s) x) ≡ none
  unfolding operand_points first
  operands_go_on (Operates op a b) = operation_goes_on op a b
  operands_go_on (Compares a b) = rw (one_not_two s a b)
  operands_go_on Nothing = refl

  completes_goes_on : (i : Instruction) → Completes i s → first (points (view_of_one s) i) ≡ none
  unfolding points address_points sorting_of first
  completes_goes_on (Lui rd imm) h = operands_go_on _
  completes_goes_on (Immediate op rd rs1 imm) h = operands_go_on _
  completes_goes_on (Register op rd rs1 rs2) h = operands_go_on _
  completes_goes_on (Ld rd rs1 imm) h = rw (good_address (offset rs1 imm s) h) (operands_go_on Nothing)
  completes_goes_on (Sd rs1 rs2 imm) h = rw (good_address (offset rs1 imm s) h) (operands_go_on Nothing)
  completes_goes_on (Branch on rs1 rs2 imm) h = operands_go_on _
  completes_goes_on (Jal rd imm) h = operands_go_on _
  completes_goes_on (Jalr rd rs1 imm) h = operands_go_on _
  completes_goes_on Ecall h = rw (h.0, h.1, h.2, good_address (reg 11 s) h.3) (operands_go_on Nothing)

fetched_goes_on : (code : List ℕ) (s : State) {i : Instruction} → fetch code s.pc ≡ Some i → first (points (view_of_one s) i) ≡ none
    → stop_of code s ≡ none
unfolding fetch stop_of stop_decoded
fetched_goes_on code s {i} e h = go (bad_pc code s.pc) (decode_of (get_or code (s.pc / 4) 0)) e
  where
    go : (t : Bool) (d : Option Instruction) → cond t None d ≡ Some i → cond t (some BadPc) (stop_decoded (cond t None d) s) ≡ none
    go false d e = rw e h
    go true d e = let z : ◌≡◌ {A = ℕ} 0 1 = cc in absurd (omega arith)

-- the machine stops at no operation, division by 0 included (document 02, No. 3)
pub operation_completes : (code : List ℕ) (s : State) (op : Operation) (rd q r : ℕ) → fetch code s.pc ≡ Some (Register op rd q r)
    → stop_of code s ≡ none
operation_completes code s op rd q r e = fetched_goes_on code s e (completes_goes_on s (Register op rd q r) tt)

pub smooth_goes_on : {j : Job} {b : Box} (m : ℕ) → Smooth j b m → (c : Choice) → Inside c b → stop_of j.code (after j m c) ≡ none
smooth_goes_on {j} m s c h =
    fetched_goes_on j.code (after j m c) (s.followed.fetched c h)
    (completes_goes_on (after j m c) s.instruction (s.followed.completes c h))

-- Kinds 7, 8 and 9 do not stop the plain machine.

record OfMachine (ps : List Point) : Type 0 where
  kind : (e : End) → first ps ≡ some e → kind_number e ≤ 6

none_applies : {ps : List Point} → first ps ≡ none → OfMachine ps
none_applies n = record { kind = λ e d. let z : ◌≡◌ {A = ℕ} 0 1 = cc in absurd (omega arith) }

-- a point that does not apply, and one with such a kind
passed : {x : End} {t : Bool} {ps : List Point} → t ≡ false → OfMachine ps → OfMachine ((t ⇒ x) ∷ ps)
unfolding first
passed q h = record { kind = λ e d. h.kind e (rw q at d) }

lower : {x : End} {t : Bool} {ps : List Point} → kind_number x ≤ 6 → OfMachine ps → OfMachine ((t ⇒ x) ∷ ps)
unfolding first
lower {x} {t} l h =
    record {
      kind = λ e d. by_test t
          (λ a. let b : some x ≡ some e = rw a at d in let z : x ≡ e = cc in omega (arith, ap kind_number z))
          (λ a. h.kind e (rw a at d));
    }

module _ (s : State) where
  operands_of_machine : (x : Sorting) → OfMachine (operand_points (view_of_one s) x)
  operands_of_machine x = none_applies (operands_go_on s x)

  points_of_machine : (i : Instruction) → OfMachine (points (view_of_one s) i)
  unfolding points address_points
  points_of_machine (Lui rd imm) = operands_of_machine _
  points_of_machine (Immediate op rd rs1 imm) = operands_of_machine _
  points_of_machine (Register op rd rs1 rs2) = operands_of_machine _
  points_of_machine (Ld rd rs1 imm) = passed refl (lower (omega arith) (operands_of_machine _))
  points_of_machine (Sd rs1 rs2 imm) = passed refl (lower (omega arith) (operands_of_machine _))
  points_of_machine (Branch on rs1 rs2 imm) = operands_of_machine _
  points_of_machine (Jal rd imm) = operands_of_machine _
  points_of_machine (Jalr rd rs1 imm) = passed refl (operands_of_machine _)
  points_of_machine Ecall =
      passed (by_test (eqb (reg 17 s) 63) (λ z. rw z) (λ z. rw z))
      (lower (omega arith) (lower (omega arith) (lower (omega arith) (operands_of_machine _))))

pub stop_kinds : (code : List ℕ) (s : State) (e : End) → stop_of code s ≡ some e → kind_number e ≤ 6
unfolding stop_of stop_decoded
stop_kinds code s e d = go (bad_pc code s.pc) (fetch code s.pc) d
  where
    go : (t : Bool) (i : Option Instruction) → cond t (some BadPc) (stop_decoded i s) ≡ some e → kind_number e ≤ 6
    go true i d = let z : BadPc ≡ e = cc in omega (arith, ap kind_number z)
    go false None d = let z : BadWord ≡ e = cc in omega (arith, ap kind_number z)
    go false (Some i) d = (points_of_machine s i).kind e d
