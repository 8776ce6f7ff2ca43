use Rattle.explorer.proofs.Accepting.{prefix_fits, prefix_length}
use Rattle.explorer.proofs.Accepting.{memory_count, end_small, call_begins, call_leaves}
use native.Mathlib.Omega.{arith}
use Rattle.explorer.proofs.exploring.accepted.Goals as goal

pub copied-held-requires : goal.copied-held-requires
copied-held-requires c =
    memory_count _ _ _ c.args.table.now _ _ _ c.requires

pub overflow_add-window : goal.overflow_add-window
overflow_add-window c =
    record { fits = rw c.records_in.ensures (end_small _ _ _ c.args.table.now _ _ _ c.requires c.well_formed.1.1.1.1.1.0.0) }

pub slice_bounds-lows-end : goal.slice_bounds-lows-end
slice_bounds-lows-end c =
    prefix_fits _ _ _ c.args.table.now _ _ _ c.requires 0 _ c.ends.ensures.low_ends

pub slice_bounds-explore_box-end : goal.slice_bounds-explore_box-end
slice_bounds-explore_box-end c =
    prefix_length _ _ _ c.args.table.now _ _ _ c.requires 0 _ c.ends.ensures.low_ends

pub slice_bounds-highs-end : goal.slice_bounds-highs-end
slice_bounds-highs-end c =
    prefix_fits _ _ _ c.args.table.now _ _ _ c.requires 1 _ c.ends.ensures.high_ends

pub slice_bounds-explore_box-end-2 : goal.slice_bounds-explore_box-end-2
slice_bounds-explore_box-end-2 c =
    prefix_length _ _ _ c.args.table.now _ _ _ c.requires 1 _ c.ends.ensures.high_ends

pub explore_box-s-requires : goal.explore_box-s-requires
explore_box-s-requires c =
    rw (c.copied-held.ensures, c.ends.ensures.low_ends, c.ends.ensures.high_ends, c.records_in.ensures)
    (call_begins _ _ _ c.args.table.now _ _ _ c.requires (λ k. omega (arith, c.type_inv.memory k)) (λ k. omega (arith, c.type_inv.intervals k)) c.well_formed.1.1.1.1.1.0.0)

pub returns : goal.returns
returns c =
    let e = c.explore_box-s in
    rw (c.has_more.ensures, c.saturating_sub.ensures, c.clear.ensures, e.auto.table)
    (call_leaves _ _ _ c.args.table.now _ _ _ c.requires _ e.result (rw c.copied-held.ensures at e.ensures))
