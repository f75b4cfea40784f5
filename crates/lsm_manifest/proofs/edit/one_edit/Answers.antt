use Rattle.lsm_manifest.proofs.EditLaws.{one_edit}
use Rattle.lsm_manifest.proofs.edit.one_edit.Goals as goal

pub returns : goal.returns
returns c = one_edit
