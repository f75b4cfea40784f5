use Rattle.std.proofs.Common.{arith}
use Rattle.lsm_codec.proofs.checksum.mask.Goals as goal

pub returns-clause-value : goal.returns-clause-value
returns-clause-value c = omega arith

pub returns-clause-back : goal.returns-clause-back
returns-clause-back c = omega arith
