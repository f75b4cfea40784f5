use Rattle.std.proofs.Common.{sym, ◌∙◌, subst}
use Rattle.std.specs.Prelude.{IfOk}
use Rattle.lsm_model.specs.Files.{all_entries}
use Rattle.lsm_model.specs.Scanning.{IsScan}
use Rattle.lsm_iterators.specs.Seeking.{at_or_past}
use Rattle.lsm_version.specs.Versions.{Levels, files}
use Rattle.lsm_store.specs.Readers.{IsPromised, Learnt}
use Rattle.lsm_store.proofs.CallerLemmas.{past_shown}
use Rattle.lsm_channels.proofs.locked_version.LockedVersion.scan_from.Goals as goal

pub returns-clause-scanned : goal.returns-clause-scanned
returns-clause-scanned g c fair =
    let version = c.deref.ensures ∙ c.self.invariant.0 in
    let scanned = subst (λ (v : Levels). IfOk c.scan_from_by.result (λ s. IsScan c.args.seq (at_or_past c.args.from.now (all_entries (files v))) s.left)) version (c.scan_from_by.ensures.scanned fair) in
    let promised = subst (λ (r : Learnt). IsPromised r c.args.seq) (sym c.self.view_is) c.requires.promised in
    subst (λ (r : Learnt). IfOk c.scan_from_by.result (λ s. IsScan c.args.seq (at_or_past c.args.from.now r.history) s.left)) c.self.view_is
    (past_shown (λ s. s.left) c.scan_from_by.result c.self.inside.reader c.args.from.now c.args.seq (c.id-id.ensures.history fair) promised scanned)
