use Rattle.std.proofs.Common.{ℕ, subst}
use Rattle.std.proofs.lemmas.Result.{IfOk-weaker}
use Rattle.lsm_iterators.specs.Seeking.{at_or_past}
use Rattle.lsm_model.specs.Files.{all_entries}
use Rattle.lsm_model.specs.Scanning.{IsScan}
use Rattle.lsm_version.specs.Versions.{files}
use Rattle.lsm_database.proofs.reads.pairs_from.Goals as goal

pub returns-clause-shown : goal.returns-clause-shown
returns-clause-shown g c = λ h.
    let left = c.in_ok-scan.scan.left in
    let scanned = subst (λ (n : ℕ). IsScan n (at_or_past c.args.from.now (all_entries (files c.args.version.now))) left) c.last-last.ensures.last (c.in_ok-scan.ensures.scanned h) in
    IfOk-weaker c.first_pairs.result _ _ (λ v first. (left, scanned, first)) (c.first_pairs.ensures.shown h)
