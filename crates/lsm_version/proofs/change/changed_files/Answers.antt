use Rattle.lsm_version.proofs.ChangedFiles.{changed_has, has_changed}
use Rattle.lsm_version.proofs.change.changed_files.Goals as goal

pub returns : goal.returns
returns c = λ deleted added pointer last v F seven low. (changed_has deleted added pointer last v F, has_changed deleted added pointer last v F seven low)
