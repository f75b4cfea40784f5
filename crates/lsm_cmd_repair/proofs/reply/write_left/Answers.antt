use Rattle.lsm_cmd_repair.proofs.RunLaws.{joined}
use Rattle.lsm_cmd_repair.proofs.reply.write_left.Goals as goal

pub returns : goal.returns
returns g c = joined c.write_why.result _ _ _ _ _ c.in_ok-write_name.ensures c.write_why.ensures
