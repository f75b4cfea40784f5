use Rattle.lsm_directory.proofs.CallerLemmas.{padded_integral_six}
use Rattle.lsm_cmd_repair.proofs.reply.write_number.Goals as goal

pub returns : goal.returns
returns g c = rw (c.laid_out.ensures, padded_integral_six) at c.write.ensures.bytes
