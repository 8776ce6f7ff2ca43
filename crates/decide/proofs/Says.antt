-- What each decision says of a group that the engine stands at: its end, or that it goes on, at which instruction, and the classes at the
-- two corners. These are what the engine's turns ask.
-- Assumes nothing.
use mathlib.Core.Path.{◌≡◌, refl, sym, ap, ◌∙◌, subst}
use mathlib.Core.Logic.{◌≢◌}
use mathlib.Core.Bool.{Bool, true, false, cond}
use mathlib.Core.List.{List}
use mathlib.Core.Option.{none, some}
use Prim.Native.Nat.{ℕ, ◌+◌, ◌-◌}
use lib.Dec.{eqb, ltb}
use borrow.Author.Tests.{eqb-true, eqb-false}
use Rattle.boxes.proofs.Lists.{by_test}
use Rattle.riscu.specs.Machine.{bad_pc, fetch}
use Rattle.riscu.specs.declared.At.{At}
use Rattle.riscu.specs.declared.Instruction.{Instruction}
use Rattle.std.specs.Prelude.{Option, Some, None}
use Rattle.listing.specs.Group.{Job, Group, class_of}
use Rattle.listing.specs.Ending.{points, writes, end_by}
use Rattle.listing.specs.declared.End.{End}
use Rattle.decide.specs.Working.Corner.{machine, corner_view, verdict, same_class, onward, unless_ends, row_decision, decision, end_in}
use Rattle.decide.specs.declared.Limits.{Limits}
use Rattle.decide.specs.declared.Used.{Used}
use Rattle.std.specs.Prelude.{Result, Ok, Err}
use Rattle.decide.specs.declared.Decision.{Decision}
use Rattle.decide.specs.declared.Decision.TheVariants.{Ended, Steps, Forks}
use Rattle.decide.proofs.Decisions.{Stands, decision_ends, class_by_registers}
use Rattle.corners.specs.Working.Good.{low_state, high_state, corners_of}

module _ (code : List ℕ) (pc : ℕ) (l h : List ℕ) where
  -- the row that is at pc, and whether the class is the same at both corners
  abbrev Says : Decision → Type 0
  Says (Ended e) = Unit {0}
  Says (Steps i) = (fetch code pc ≡ Some i) × (same_class i l h ≡ true)
  Says (Forks i) = (fetch code pc ≡ Some i) × (same_class i l h ≡ false)

  onward_says : (entries : ℕ) (left : Bool) (i : Instruction) → fetch code pc ≡ Some i → Says (onward entries left (same_class i l h) i)
  unfolding onward
  onward_says entries left i f =
      by_test (ltb entries (writes left i + cond (same_class i l h) 0 1)) (λ t. rw t tt) (λ t. rw t (go (same_class i l h) refl))
    where
      go : (b : Bool) → same_class i l h ≡ b → Says (cond b (Steps i) (Forks i))
      go true s = (f, s)
      go false s = (f, s)

  unless_says : (d : Decision) (v : Result Unit End) → Says d → Says (unless_ends d v)
  unfolding unless_ends
  unless_says d (Err e) s = tt
  unless_says d (Ok x) s = s

  row_says : (entries : ℕ) (left : Bool) (d : Option Instruction) → fetch code pc ≡ d → Says (row_decision entries left l h d)
  unfolding row_decision
  row_says entries left None f = tt
  row_says entries left (Some i) f =
      unless_says (onward entries left (same_class i l h) i) (verdict (points (corner_view l h) i)) (onward_says entries left i f)

decision_says : (code : List ℕ) (m : Limits) (u : Used) (a : At) (l h : List ℕ) → Says code a.pc l h (decision code m u a l h)
unfolding decision
decision_says code m u a l h =
    by_test (eqb u.steps m.steps) (λ s. rw s tt) (λ s. rw s
    (by_test (bad_pc code a.pc) (λ p. rw p tt) (λ p. rw p
    (row_says code a.pc l h (m.entries - u.entries) (ltb a.reads m.inputs) (fetch code a.pc) refl))))

module _ {j : Job} {g : Group} {m : Limits} {u : Used} {a : At} {l h : List ℕ} (s : Stands j g m u a l h) where
  fetched : {i : Instruction} → fetch j.code a.pc ≡ Some i → fetch j.code (low_state j g).pc ≡ Some i
  fetched f = ap (fetch j.code) (sym s.pc) ∙ f

  low_class_lem : (i : Instruction) → class_of i (machine l) ≡ class_of i (low_state j g)
  low_class_lem i = ap (λ (r : List ℕ). class_of i (machine r)) s.low_registers ∙ class_by_registers i (low_state j g)

  high_class_lem : (i : Instruction) → class_of i (machine h) ≡ class_of i (high_state j g)
  high_class_lem i = ap (λ (r : List ℕ). class_of i (machine r)) s.high_registers ∙ class_by_registers i (high_state j g)

  abbrev made : Decision
  made = decision j.code m u a l h

  pub says_ended : {e : End} → made ≡ Ended e → end_by j g (corners_of j g) ≡ some e
  unfolding end_in
  says_ended d = sym (decision_ends j g m u a l h s) ∙ ap end_in d

  pub says_steps : {i : Instruction} → made ≡ Steps i
      → (end_by j g (corners_of j g) ≡ none) × (fetch j.code (low_state j g).pc ≡ Some i)
      × (class_of i (low_state j g) ≡ class_of i (high_state j g))
  unfolding end_in
  says_steps {i} d =
      let x = subst (Says j.code a.pc l h) d (decision_says j.code m u a l h) in (
        sym (decision_ends j g m u a l h s) ∙ ap end_in d,
        fetched x.0,
        sym (low_class_lem i) ∙ eqb-true (class_of i (machine l)) (class_of i (machine h)) x.1 ∙ high_class_lem i,
      )

  pub says_forks : {i : Instruction} → made ≡ Forks i
      → (end_by j g (corners_of j g) ≡ none) × (fetch j.code (low_state j g).pc ≡ Some i)
      × (class_of i (low_state j g) ≢ class_of i (high_state j g))
  unfolding end_in
  says_forks {i} d =
      let x = subst (Says j.code a.pc l h) d (decision_says j.code m u a l h) in (
        sym (decision_ends j g m u a l h s) ∙ ap end_in d,
        fetched x.0,
        λ e. eqb-false (class_of i (machine l)) (class_of i (machine h)) x.1 (low_class_lem i ∙ e ∙ sym (high_class_lem i)),
      )
