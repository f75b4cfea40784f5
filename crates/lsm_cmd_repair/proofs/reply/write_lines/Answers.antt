use Rattle.lsm_cmd_repair.proofs.RunLaws.{joined}
use Rattle.lsm_cmd_repair.proofs.reply.write_lines.Goals as goal

pub returns : goal.returns
returns g c = joined c.write_lefts.result _ _ _ _ _ c.in_ok-write_head.ensures c.write_lefts.ensures
