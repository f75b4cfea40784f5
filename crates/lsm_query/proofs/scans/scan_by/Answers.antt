use Rattle.std.proofs.lemmas.Result.{IfOk-weaker}
use Rattle.lsm_model.specs.Files.{all_entries}
use Rattle.lsm_version.specs.Versions.{files}
use Rattle.lsm_query.proofs.ScanLaws.{scan_from_least}
use Rattle.lsm_query.proofs.scans.scan_by.Goals as goal

pub returns-clause-scanned : goal.returns-clause-scanned
returns-clause-scanned g c = λ h.
    IfOk-weaker c.scan_from_by.result _ _ (λ s a. scan_from_least c.args.seq (all_entries (files c.args.version.now)) s.left a) (c.scan_from_by.ensures.scanned h)
