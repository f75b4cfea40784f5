use Rattle.lsm_version.proofs.ChangedFiles.{changed_from, changed_in}
use Rattle.lsm_version.proofs.change.changed_tables.Goals as goal

pub returns : goal.returns
returns c = λ deleted added pointer last v n t lt. (changed_from deleted added pointer last v n t, changed_in deleted added pointer last v n t lt)
