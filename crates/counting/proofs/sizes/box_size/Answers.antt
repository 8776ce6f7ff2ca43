-- `counting::sizes::box_size` meets its contract: the widths multiplied up, as long as the product is a word.
-- Assumes nothing.
use mathlib.Core.Path.{◌≡◌, ap, ◌∙◌}
use mathlib.Core.List.{List, ◌∷◌}
use Prim.Native.Nat.{ℕ}
use native.Mathlib.Omega.{arith}
use denote.Ref.{Bor}
use lib.ListN.{get_or}
use Rattle.std.specs.declared.slice.ChunksExact.{ChunksExact}
use Rattle.std.specs.declared.option.Option.TheVariants.{Some}
use Rattle.std.specs.Slice.Iter.{chunks_exact_size, chunks_exact_rest, chunks_exact_steps}
use Rattle.boxes.specs.Boxes.{◌⋯◌}
use Rattle.calls.specs.Call.{box_of}
use Rattle.calls.proofs.Pairs.{box_short, box_more}
use Rattle.counting.proofs.Products.{begin_multiplied, all_multiplied, in_order, one_multiplied, wide_over, product_over, size_fits_lem}
use Rattle.counting.proofs.sizes.box_size.Goals as goal

next : (s t : ChunksExact ℕ) (p : Bor (List ℕ)) → chunks_exact_steps s (Some p) t → chunks_exact_size s ≡ 2
    → box_of (chunks_exact_rest s) ≡ (get_or p.now 0 0 ⋯ get_or p.now 1 0) ∷ box_of (chunks_exact_rest t)
next s t p h two = ap box_of h.1.0 ∙ box_more p.now (chunks_exact_rest t) (h.1.1 ∙ two)

pub loop-pair-init : goal.loop-pair-init
loop-pair-init c =
    let s = c.chunks_exact-pair-items.ensures in
    rw (c.into_iter-pair-iterator.ensures.into_iter_gives, s.rest) (s.size, omega arith, begin_multiplied (box_of c.args.intervals.now) c.requires)

pub overflow_sub-more : goal.overflow_sub-more
overflow_sub-more c =
    let i = c.loop-pair.invariant in
    let o = in_order (box_of c.args.intervals.now) (next c.loop-pair.pair-iterator c.next.new.self c.in-Some.pair c.in-Some.ensures.steps i.0) i.2 in
    omega arith

pub returns-in_err-width : goal.returns-in_err-width
returns-in_err-width c =
    let i = c.loop-pair.invariant in
    let step = next c.loop-pair.pair-iterator c.next.new.self c.in-Some.pair c.in-Some.ensures.steps i.0 in
    c.from_residual.ensures ∙ wide_over (box_of c.args.intervals.now) step i.2 c.in_err-width.ensures

pub returns-in_err-n : goal.returns-in_err-n
returns-in_err-n c =
    let i = c.loop-pair.invariant in
    let step = next c.loop-pair.pair-iterator c.next.new.self c.in-Some.pair c.in-Some.ensures.steps i.0 in
    c.from_residual-in_err-n.ensures
    ∙ product_over (box_of c.args.intervals.now) step i.2 (rw c.in_ok-width.ensures.1 at c.in_err-n.ensures)

pub loop-pair-preserved : goal.loop-pair-preserved
loop-pair-preserved c =
    let i = c.loop-pair.invariant in
    let step = next c.loop-pair.pair-iterator c.next.new.self c.in-Some.pair c.in-Some.ensures.steps i.0 in
    let product = c.in_ok-n.ensures in (
      c.in-Some.ensures.steps.0 ∙ i.0,
      omega (arith, product),
      rw (product.1, c.in_ok-width.ensures.1) (one_multiplied (box_of c.args.intervals.now) step i.2),
    )

pub returns : goal.returns
returns c =
    let i = c.loop-pair.invariant in
    let b = box_of c.args.intervals.now in
    let h = c.in-None.ensures.steps in
    size_fits_lem b (all_multiplied b _ i.2 (box_short _ (omega (arith, h.1.0, i.0)))) i.1
