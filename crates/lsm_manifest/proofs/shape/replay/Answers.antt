use Rattle.lsm_manifest.proofs.ShapeLaws.{found_only}
use Rattle.lsm_manifest.proofs.shape.replay.Goals as goal

pub returns-clause-only : goal.returns-clause-only
returns-clause-only c = found_only c.args.edits.now c.come_to.result c.come_to.ensures.found c.come_to.ensures.refused
