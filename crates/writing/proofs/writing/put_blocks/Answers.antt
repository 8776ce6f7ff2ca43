use mathlib.Core.Path.{◌∙◌}
use native.Mathlib.Omega.{arith}
use Rattle.writing.specs.Form.{part_blocks}
use Rattle.writing.proofs.Parts.{chunk_more, chunk_end, put_turn, put_done}
use Rattle.writing.proofs.writing.put_blocks.Goals as goal

pub loop-b-preserved : goal.loop-b-preserved
loop-b-preserved c =
    let l = c.loop-b in
    let h = c.in-Some.ensures.steps in
    let m = chunk_more c.args.words.now c.in-Some.payload l.invariant.0 h.0 in
    rw h.2 (
      m.2,
      put_turn c.args.words.now c.args.job.now c.args.at _ l.job _ l.invariant.1 m.1 (omega (arith, c.requires.0)) c.put_block.auto.bytes
          (c.put_block.ensures ∙ rw (h.1, m.0)),
    )

pub returns : goal.returns
unfolding part_blocks
returns c =
    let l = c.loop-b in
    put_done c.args.words.now c.args.job.now c.args.at _ l.job _ l.invariant.1 (chunk_end c.args.words.now l.invariant.0 c.in-None.ensures.steps.0)
