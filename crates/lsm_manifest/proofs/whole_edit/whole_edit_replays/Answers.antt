use Rattle.lsm_manifest.proofs.WholeEditLaws.{whole_replays, whole_fits}
use Rattle.lsm_manifest.proofs.whole_edit.whole_edit_replays.Goals as goal

pub returns-clause-replays : goal.returns-clause-replays
returns-clause-replays c = whole_replays

pub returns-clause-fit : goal.returns-clause-fit
returns-clause-fit c = whole_fits
