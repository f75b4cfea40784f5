use Rattle.lsm_cmd_repair.proofs.RunLaws.{joined}
use Rattle.lsm_cmd_repair.proofs.reply.write_note.Goals as goal

pub returns : goal.returns
returns g c =
    joined c.write_all.result _ _ _ _ _ c.in_ok-begin_note.ensures c.write_all.ensures.bytes
