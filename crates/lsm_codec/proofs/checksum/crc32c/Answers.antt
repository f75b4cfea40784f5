use Rattle.std.proofs.Common.{rules}
use Rattle.lsm_codec.specs.Crc.{crc_of}
use Rattle.lsm_codec.proofs.checksum.crc32c.Goals as goal

pub returns : goal.returns
unfolding crc_of
returns c = search rules
