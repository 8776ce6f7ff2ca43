-- `sheets::lines::set_field` meets its contract: digit by digit, from the last one back.
-- Assumes nothing.
use mathlib.Core.Path.{refl, ◌∙◌}
use native.Mathlib.Omega.{arith}
use lib.ListN.{length-set}
use Rattle.printing.proofs.Digits.{digits_length, one_digit, tenth_digits}
use Rattle.sheets.proofs.Columns.{digit_turn, digit_done}
use Rattle.sheets.proofs.lines.set_field.Goals as goal

pub loop-rest-init : goal.loop-rest-init
loop-rest-init c = (refl, omega arith, omega (arith, digits_length c.args.n), c.requires.1, refl)

pub loop-rest-preserved : goal.loop-rest-preserved
loop-rest-preserved c =
    let l = c.loop-rest in
    let e = tenth_digits l.rest (omega arith) l.invariant.1 in (
      rw length-set l.invariant.0,
      omega arith,
      omega (arith, l.invariant.2),
      omega (arith, l.invariant.3),
      digit_turn l.text l.k l.rest l.invariant.2 (omega (arith, l.invariant.0, l.invariant.3)) (omega arith) l.invariant.1 ∙ l.invariant.4,
    )

pub returns : goal.returns
returns c =
    let l = c.loop-rest in
    digit_done l.text l.k l.rest l.invariant.2 (omega (arith, l.invariant.0, l.invariant.3)) (omega arith) ∙ l.invariant.4

pub overflow_sub-k-in-loop-rest : goal.overflow_sub-k-in-loop-rest
overflow_sub-k-in-loop-rest c =
    let l = c.loop-rest in
    omega (arith, l.invariant.2, tenth_digits l.rest (omega arith) l.invariant.1)

pub overflow_sub-text : goal.overflow_sub-text
overflow_sub-text c =
    let l = c.loop-rest in
    omega (arith, l.invariant.2, one_digit l.rest (omega arith))
