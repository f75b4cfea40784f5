use Rattle.lsm_cmd_levels.specs.Reaching.{span_in}
use Rattle.lsm_cmd_levels.proofs.SpanLaws.{reaching_more, reaching_none}
use Rattle.lsm_cmd_levels.proofs.reaching.reach.Goals as goal

pub loop-turn-init : goal.loop-turn-init
loop-turn-init c = reaching_none c.args.files.now (span_in c.args.from)

pub loop-turn-preserved : goal.loop-turn-preserved
loop-turn-preserved c =
    reaching_more c.args.files.now (span_in c.args.from) (span_in c.loop-turn.span) (span_in c.grow-grown.result) c.loop-turn.invariant c.grow-grown.ensures
