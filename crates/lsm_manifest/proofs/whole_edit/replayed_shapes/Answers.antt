use Rattle.lsm_manifest.proofs.WholeEditLaws.{replayed_shape, replayed_fits, manifest_fits}
use Rattle.lsm_manifest.proofs.whole_edit.replayed_shapes.Goals as goal

pub returns-clause-shape : goal.returns-clause-shape
returns-clause-shape c = replayed_shape

pub returns-clause-fit : goal.returns-clause-fit
returns-clause-fit c = replayed_fits

pub returns-clause-manifest : goal.returns-clause-manifest
returns-clause-manifest c = manifest_fits
