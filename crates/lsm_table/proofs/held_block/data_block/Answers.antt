use Rattle.lsm_table.proofs.HeldBlockLaws.{at_place}
use Rattle.lsm_table.proofs.held_block.data_block.Goals as goal

pub block_at-requires : goal.block_at-requires
block_at-requires c = (c.requires.0, at_place c.args.body.now c.args.spelled.now c.spelled.result c.requires.0 c.spelled.ensures c.requires.1)

pub returns : goal.returns
returns c es d = c.block_at.ensures.entries es (at_place c.args.body.now c.args.spelled.now c.spelled.result es c.spelled.ensures d)
