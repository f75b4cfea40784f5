use Rattle.lsm_model.proofs.Scanning.{scan_is}
use Rattle.lsm_model.proofs.laws.scans_show_answers.Goals as goal

pub returns : goal.returns
returns c = scan_is
