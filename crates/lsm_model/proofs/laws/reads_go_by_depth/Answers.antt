use Rattle.lsm_model.proofs.Depths.{goes_by_depth}
use Rattle.lsm_model.proofs.laws.reads_go_by_depth.Goals as goal

pub returns : goal.returns
returns c = goes_by_depth
