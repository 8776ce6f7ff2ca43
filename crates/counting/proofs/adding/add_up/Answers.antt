-- `counting::adding::add_up` meets its contract: the records from the last to the first, each added where it belongs.
-- Assumes nothing.
use mathlib.Core.Path.{◌≡◌, subst}
use Prim.Native.Nat.{ℕ}
use native.Mathlib.Omega.{arith}
use borrow.Author.Tests.{tests}
use lib.ListN.{drop}
use Rattle.std.proofs.Common.{rules}
use Rattle.counting.specs.Working.Adding.{parts_in}
use Rattle.counting.proofs.Summed.{Summed, mapped, none_summed, kind_fits, varying_fits, value_room, other_summed, varying_summed, fixed_summed, all_left, next, next_fits, next_few, kind_below, size_countable, all_summed}
use Rattle.counting.proofs.Tallies.{value_of, count_of}
use Rattle.counting.proofs.adding.add_up.Goals as goal

pub loop-k-init : goal.loop-k-init
loop-k-init c = none_summed (all_left c.requires)

pub path_size-size-requires : goal.path_size-size-requires
path_size-size-requires c = (omega (arith, c.requires.records), c.requires.inputs, size_countable c.requires c.loop-k.k (omega arith) (omega arith))

pub overflow_add-kinds : goal.overflow_add-kinds
overflow_add-kinds c =
    let f = next_fits c.requires (omega arith) (omega arith) c.path_size-size.ensures c.record_word-kind.ensures c.record_word-low.ensures c.record_word-high.ensures in
    record { fits = kind_fits c.loop-k.invariant _ f _ (kind_below c.requires (omega arith) (omega arith) c.record_word-kind.ensures) }

pub loop-k-preserved-then-kind-ne-EXIT : goal.loop-k-preserved-then-kind-ne-EXIT
loop-k-preserved-then-kind-ne-EXIT c =
    let n = next c.requires (omega arith) (omega arith) c.path_size-size.ensures c.record_word-kind.ensures c.record_word-low.ensures c.record_word-high.ensures in
    other_summed c.loop-k.invariant _ _ _ _ n c.if-kind-ne-EXIT.true (kind_below c.requires (omega arith) (omega arith) c.record_word-kind.ensures)

pub add-requires : goal.add-requires
add-requires c =
    let f = next_fits c.requires (omega arith) (omega arith) c.path_size-size.ensures c.record_word-kind.ensures c.record_word-low.ensures c.record_word-high.ensures in
    value_room c.loop-k.invariant _ f _ (next_few c.requires c.loop-k.k (omega arith) (omega arith))

pub loop-k-preserved-then-low-high : goal.loop-k-preserved-then-low-high
loop-k-preserved-then-low-high c =
    let n = next c.requires (omega arith) (omega arith) c.path_size-size.ensures c.record_word-kind.ensures c.record_word-low.ensures c.record_word-high.ensures in
    fixed_summed c.loop-k.invariant _ _ _ _ n c.if-kind-ne-EXIT.false (omega (arith, c.if-low-high.true)) c.add.ensures

pub overflow_add-varying : goal.overflow_add-varying
overflow_add-varying c =
    let f = next_fits c.requires (omega arith) (omega arith) c.path_size-size.ensures c.record_word-kind.ensures c.record_word-low.ensures c.record_word-high.ensures in
    record { fits = varying_fits c.loop-k.invariant _ f }

pub loop-k-preserved : goal.loop-k-preserved
loop-k-preserved c =
    let n = next c.requires (omega arith) (omega arith) c.path_size-size.ensures c.record_word-kind.ensures c.record_word-low.ensures c.record_word-high.ensures in
    varying_summed c.loop-k.invariant _ _ _ _ n c.if-kind-ne-EXIT.false (omega (arith, c.if-low-high.false))

pub returns : goal.returns
returns c =
    let a = c.args in
    let l = c.loop-k in
    let z : l.k ≡ 0 = omega arith in
    all_summed c.requires
    (subst (λ (i : ℕ). Summed (drop i (parts_in a.inputs a.report.now a.count)) l.exits.places l.kinds l.exits.used l.varying) z l.invariant)
    (mapped value_of l.exits.places _ c.map.ensures.items (λ p q e r k. search (rules, tests)))
    (mapped count_of l.exits.places _ c.map-2.ensures.items (λ p q e r k. search (rules, tests)))
