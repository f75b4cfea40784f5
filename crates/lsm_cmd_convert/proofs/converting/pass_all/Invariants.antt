use Rattle.std.proofs.Common.{length}
use Rattle.lsm_cmd_convert.proofs.converting.pass_all.Given as goal

abbrev pub decreases-entries : goal.decreases-entries
decreases-entries l = length l.entries.left
