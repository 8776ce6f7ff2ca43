-- `counting::adding::Entries::add` meets its contract: the entry goes along the places, and changes with each greater one.
-- Assumes nothing.
use native.Mathlib.Omega.{arith}
use lib.ListN.{length-set}
use Rattle.counting.proofs.Sliding.{opened_fits, passed, swapped, hit, ended}
use Rattle.counting.proofs.adding.Entries.add.Goals.{then-carried-here-2, else-carried-here-2}
use Rattle.counting.proofs.adding.Entries.add.Goals as goal

pub overflow_add-self : goal.overflow_add-self
overflow_add-self c =
    let l = c.loop-i in
    let f = opened_fits l.self.places c.args.self.now.used l.i l.carried _ _ (omega arith) (omega (arith, c.requires.free)) l.invariant.2 in
    record { fits = omega arith }

pub returns-then-carried-here : goal.returns-then-carried-here
returns-then-carried-here c =
    let l = c.loop-i in
    let r = hit l.self.places c.args.self.now.used l.i l.carried _ _ (omega arith) (omega (arith, c.requires.free)) l.invariant.2 c.if-carried-here.true in
    record { lists = r.0; count = rw l.invariant.1 r.1 }

pub loop-i-preserved : goal.loop-i-preserved
loop-i-preserved c =
    let l = c.loop-i in
    elim c.if-carried-here-2.branch [
      | then-carried-here-2 w ↦ rw (w.self-is, w.carried-is) (
        simp length-set l.invariant.0,
        l.invariant.1,
        swapped l.self.places c.args.self.now.used l.i l.carried _ _ (omega arith) (omega (arith, c.requires.free)) l.invariant.2 w.if-carried-here-2.true,
      )
      | else-carried-here-2 w ↦ rw (w.self-is, w.carried-is) (
        l.invariant.0,
        l.invariant.1,
        let ne = c.if-carried-here.false in passed l.self.places c.args.self.now.used l.i l.carried _ _ (omega arith) (omega (arith, c.requires.free)) l.invariant.2 (omega (arith, w.if-carried-here-2.false)),
      )
    ]

pub returns : goal.returns
returns c =
    let l = c.loop-i in
    let r = ended l.self.places c.args.self.now.used l.i l.carried _ _ (omega arith) (omega (arith, c.requires.free, l.invariant.0)) l.invariant.2 in
    rw l.invariant.1 (record { lists = r.0; count = r.1 })
