use Rattle.lsm_version.proofs.Deletions.{deleted_sound}
use Rattle.lsm_version.proofs.change.deletions_are_sound.Goals as goal

pub returns : goal.returns
returns c = deleted_sound
