-- `printing::lines::put_ending` meets its contract, for the record's kind.
-- Assumes nothing.
use native.Mathlib.Omega.{arith}
use Rattle.blocks.specs.Said.{said_at}
use Rattle.printing.specs.Working.Writing.{output}
use Rattle.printing.proofs.Parts.{exit_end, reason_end, no_end}
use Rattle.printing.proofs.lines.put_ending.Goals as goal

pub returns-in-1 : goal.returns-in-1
returns-in-1 c =
    let a = c.args in
    exit_end (output a.out.now a.at) (said_at a.inputs a.report.now a.k) c.record_word.ensures c.in-1.is c.record_word-low.ensures c.record_word-high.ensures c.put_range.ensures

pub returns-in-8 : goal.returns-in-8
returns-in-8 c =
    let a = c.args in
    reason_end (output a.out.now a.at) (said_at a.inputs a.report.now a.k) c.record_word.ensures (λ e. omega arith) c.in-8.is c.record_word-in-8.ensures c.put_field.ensures

pub returns-in_default : goal.returns-in_default
returns-in_default c =
    let a = c.args in
    no_end (output a.out.now a.at) (said_at a.inputs a.report.now a.k) c.record_word.ensures (λ e. omega arith) (λ e. omega arith)
