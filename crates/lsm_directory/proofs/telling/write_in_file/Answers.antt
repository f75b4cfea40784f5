use Rattle.lsm_directory.proofs.TellingLaws.{told_joined}
use Rattle.lsm_directory.proofs.telling.write_in_file.Goals as goal

pub returns : goal.returns
returns g c = told_joined c.write_file.result _ _ _ _ _ c.in_ok-write_text.ensures c.write_file.ensures
