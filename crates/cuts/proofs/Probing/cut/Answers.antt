use mathlib.Core.Path.{◌≡◌, sym, ap, ◌∙◌}
use mathlib.Core.List.{List}
use Prim.Native.Nat.{ℕ}
use borrow.Author.Rules.{rules}
use Rattle.listing.specs.Group.{class_of}
use Rattle.decide.proofs.Decisions.{class_by_registers}
use Rattle.cuts.specs.Working.Cutting.{probed, reached_by, probed_by}
use Rattle.cuts.proofs.Search.{goes_up, goes_down}
use Rattle.cuts.proofs.Probing.cut.Goals.{then-class_of-self, else-class_of-self}
use Rattle.cuts.proofs.Probing.cut.Goals as goal

pub loop-b-preserved : goal.loop-b-preserved
unfolding probed
loop-b-preserved c =
    let k = c.class_of in
    let g = c.guess-x in
    let t = c.loop-b-test.true in
    let a = c.args in
    let i = c.loop-b.invariant in
    let p = c.probe-probed.ensures in
    let q = a.self in
    let f = probed_by q a.choice.now in
    let there = p.scratch_value ∙ ap (λ (x : List ℕ). reached_by q x g.result) i.same_choice in
    let e : k.result ≡ f g.result = k.ensures ∙ class_by_registers q.instruction _ ∙ ap (class_of q.instruction) there in
    record {
      same_choice = p.choice_value ∙ i.same_choice;
      narrowed = elim c.if-class_of-self.branch [
        | then-class_of-self w ↦
            rw (w.a-is, w.b-is) (goes_up f q.class a.lo a.hi i.narrowed t g.result (search rules) g.ensures.0 g.ensures.1 g.ensures.2 (sym e ∙ w.if-class_of-self.true))
        | else-class_of-self w ↦
            rw (w.a-is, w.b-is) (goes_down f q.class a.lo a.hi i.narrowed t g.result (search rules) g.ensures.0 g.ensures.1 g.ensures.2 (λ h. w.if-class_of-self.false (e ∙ h)))
      ];
      at_edge = elim c.if-class_of-self.branch [
        | then-class_of-self w ↦ rw (w.a-is, w.at-is) there
        | else-class_of-self w ↦ rw w.at-is tt
      ];
    }
