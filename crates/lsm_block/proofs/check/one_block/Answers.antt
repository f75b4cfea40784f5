use Rattle.lsm_block.proofs.BlockLaws.{one_block}
use Rattle.lsm_block.proofs.check.one_block.Goals as goal

pub returns : goal.returns
returns c bytes es fs b d = one_block bytes es fs b d
