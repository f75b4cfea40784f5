use Rattle.std.proofs.Common.{◌+◌, sym, subst, take}
use Rattle.lsm_cmd_levels.specs.Reaching.{IsGrown, span_in}
use Rattle.lsm_cmd_levels.specs.declared.span.KeySpan.{KeySpan}
use Rattle.lsm_cmd_levels.proofs.SpanLaws.{grown_met, grown_none, grown_skip}
use Rattle.lsm_cmd_levels.proofs.reaching.grow.Goals as goal
use Rattle.lsm_cmd_levels.proofs.reaching.grow.Goals.{then-meets, else-meets}

pub loop-file-init : goal.loop-file-init
loop-file-init c = grown_none c.args.files.now (span_in c.args.from)

pub loop-file-preserved : goal.loop-file-preserved
loop-file-preserved c = elim c.if-meets.branch [
  | then-meets w ↦ subst (λ (k : KeySpan). IsGrown c.args.files.now (take (c.loop-file.file-index + 1) c.args.files.now) (span_in c.args.from) (span_in k)) (sym w.span-is)
      (grown_met c.args.files.now c.loop-file.file-index c.file-item.result (span_in c.args.from) (span_in c.loop-file.span) (span_in w.with-span.result) (span_in c.of-own.result)
      c.meets.result c.loop-file-test.true c.file-item.is c.of-own.ensures c.meets.ensures w.if-meets.true w.with-span.ensures c.loop-file.invariant)
  | else-meets w ↦ subst (λ (k : KeySpan). IsGrown c.args.files.now (take (c.loop-file.file-index + 1) c.args.files.now) (span_in c.args.from) (span_in k)) (sym w.span-is)
      (grown_skip c.args.files.now c.loop-file.file-index c.file-item.result (span_in c.args.from) (span_in c.loop-file.span) (span_in c.of-own.result)
      c.meets.result c.loop-file-test.true c.file-item.is c.of-own.ensures c.meets.ensures w.if-meets.false c.loop-file.invariant)
]
