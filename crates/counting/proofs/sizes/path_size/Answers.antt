-- `counting::sizes::path_size` meets its contract: the widths multiplied up; the product is no more than the size.
-- Assumes nothing.
use native.Mathlib.Omega.{arith}
use Rattle.blocks.specs.Report.{record_at}
use Rattle.counting.proofs.Products.{begin_multiplied, all_multiplied, in_order, product_fits, width_fits, one_multiplied, next_interval, none_left}
use Rattle.counting.proofs.sizes.path_size.Goals as goal

pub loop-i-init : goal.loop-i-init
loop-i-init c = begin_multiplied _ c.requires.2.proper

pub overflow_sub-n : goal.overflow_sub-n
overflow_sub-n c =
    let v = next_interval c.args.inputs (record_at c.args.inputs c.args.report.now c.args.k) c.loop-i.i (omega arith) c.input_low-low.ensures c.input_high-high.ensures in
    omega (arith, in_order _ v c.loop-i.invariant)

pub overflow_add-n : goal.overflow_add-n
overflow_add-n c =
    let v = next_interval c.args.inputs (record_at c.args.inputs c.args.report.now c.args.k) c.loop-i.i (omega arith) c.input_low-low.ensures c.input_high-high.ensures in
    omega (arith, width_fits _ v c.loop-i.invariant, c.requires.2.fits)

pub overflow_mul-n : goal.overflow_mul-n
overflow_mul-n c =
    let v = next_interval c.args.inputs (record_at c.args.inputs c.args.report.now c.args.k) c.loop-i.i (omega arith) c.input_low-low.ensures c.input_high-high.ensures in
    omega (arith, product_fits _ v c.loop-i.invariant, c.requires.2.fits)

pub loop-i-preserved : goal.loop-i-preserved
loop-i-preserved c =
    let v = next_interval c.args.inputs (record_at c.args.inputs c.args.report.now c.args.k) c.loop-i.i (omega arith) c.input_low-low.ensures c.input_high-high.ensures in
    one_multiplied _ v c.loop-i.invariant

pub returns : goal.returns
returns c =
    all_multiplied _ _ c.loop-i.invariant (none_left c.args.inputs (record_at c.args.inputs c.args.report.now c.args.k) c.loop-i.i (omega arith))
