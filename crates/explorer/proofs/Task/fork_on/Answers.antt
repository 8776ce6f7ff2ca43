use mathlib.Core.Path.{refl}
use Rattle.explorer.proofs.Forking.{tag_inside, fork_partable, fork_entry, fork_used, fork_steps, with_run, fork_done}
use native.Mathlib.Omega.{arith}
use Rattle.explorer.proofs.Task.fork_on.Goals as goal

pub overflow_add-s : goal.overflow_add-s
overflow_add-s c =
    omega (arith, fork_steps c.requires)

pub overflow_add-w : goal.overflow_add-w
overflow_add-w c =
    omega (arith, fork_used c.requires, c.writes-w.ensures, c.well_formed.1.1.1.0.0)

pub overflow_add-s-2 : goal.overflow_add-s-2
overflow_add-s-2 c =
    omega (arith, fork_used c.requires, c.writes-w.ensures, c.well_formed.1.1.1.0.0)

pub overflow_add-result : goal.overflow_add-result
overflow_add-result c =
    omega (arith, fork_entry c.requires, c.well_formed.1.1.1.0.0)

pub offset_bounds-lows-input : goal.offset_bounds-lows-input
offset_bounds-lows-input c =
    let t = c.class_tag-input in
    omega (arith, c.well_formed.1.0.1, tag_inside c.requires t.result t.ensures)

pub bounds-lows-input : goal.bounds-lows-input
bounds-lows-input c =
    let t = c.class_tag-input in
    tag_inside c.requires t.result t.ensures

pub offset_bounds-highs-input : goal.offset_bounds-highs-input
offset_bounds-highs-input c =
    let t = c.class_tag-input in
    omega (arith, c.well_formed.1.0.1, tag_inside c.requires t.result t.ensures)

pub bounds-highs-input : goal.bounds-highs-input
bounds-highs-input c =
    let h = c.requires in
    let t = c.class_tag-input in
    omega (arith, h.held.fits.paired, tag_inside h t.result t.ensures)

pub part-below-requires : goal.part-below-requires
part-below-requires c =
    let t = c.class_tag-input in
    let k = c.class_of-class in
    fork_partable c.requires t.result t.ensures k.result k.ensures

pub push-requires : goal.push-requires
push-requires c = fork_entry c.requires

pub returns : goal.returns
returns c =
    let a = c.args in
    let t = c.class_tag-input in
    let k = c.class_of-class in
    let p = c.part-below in
    let n = c.push in
    rw (c.at_group.ensures, c.writes-w.ensures)
    (fork_done c.requires t.result t.ensures k.result k.ensures _ c.advance-at.result p.result.edge refl p.ensures.fact
    n.ensures n.auto.table (with_run a.lows.now _ a.i _ _ p.ensures.scratch_value c.advance-at.ensures))
