use Rattle.lsm_channels.proofs.PairLaws.{scan_past}
use Rattle.lsm_channels.proofs.scanning.first_from.Goals as goal

pub returns-clause-scanned : goal.returns-clause-scanned
returns-clause-scanned g c = λ h. scan_past _ _ _ _ _ _ (c.in_ok-scan.ensures.scanned h) (c.in_ok-next.ensures.ok h)
