use Rattle.lsm_admission.proofs.KnownKept.{known_kept}
use Rattle.lsm_admission.proofs.laws.known_tables_are_kept.Goals as goal

pub returns : goal.returns
returns g c = known_kept g.K.KnownTables.images
