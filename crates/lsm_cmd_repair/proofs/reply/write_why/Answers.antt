use Rattle.std.proofs.Common.{sym}
use Rattle.lsm_cmd_repair.proofs.reply.write_why.Goals as goal

pub returns : goal.returns
returns g c = rw (sym c.number-number.ensures, sym c.name-name.ensures) c.writeln.ensures.bytes
