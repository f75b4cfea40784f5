use Rattle.std.proofs.Common.{ap, sym, ◌∙◌, arith}
use Rattle.std.specs.Int.{w64, to_le_bytes}
use Rattle.lsm_block.proofs.BuildLaws.{common-further}
use Rattle.lsm_block.proofs.entry_text.common_words.Goals as goal

pub loop-i-preserved : goal.loop-i-preserved
loop-i-preserved c =
    let same = sym c.eight_at.ensures ∙ ap (to_le_bytes w64) c.if-eight_at.true ∙ c.eight_at-then-i-b.ensures in
    let further = common-further 8 c.loop-i.i c.args.a.now c.args.b.now (omega arith) (omega arith) same in
    (omega (arith, c.loop-i.invariant.0, further), omega arith, omega arith)
