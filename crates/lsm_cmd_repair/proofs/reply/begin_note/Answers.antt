use Rattle.lsm_cmd_repair.proofs.RunLaws.{joined}
use Rattle.lsm_cmd_repair.proofs.reply.begin_note.Goals as goal

pub returns : goal.returns
returns g c =
    joined c.write_number.result _ _ _ _ _ c.in_ok-write_all.ensures.bytes c.write_number.ensures
