use Rattle.std.proofs.Common.{ap, ◌∙◌, subst}
use Rattle.std.specs.Prelude.{IfOk}
use Rattle.lsm_model.specs.Files.{all_entries}
use Rattle.lsm_model.specs.Scanning.{IsScan}
use Rattle.lsm_iterators.specs.Seeking.{at_or_past}
use Rattle.lsm_version.specs.Versions.{Levels, files}
use Rattle.lsm_store.specs.Promised.{AnswersAll}
use Rattle.lsm_store.specs.Readers.{KnowsAll, KnownVersion, Learnt}
use Rattle.lsm_store.specs.declared.view.View.TheInside.{Inside}
use Rattle.lsm_store.proofs.ScanLaws.{past_shown}
use Rattle.lsm_store.proofs.view.View.scan_from.Goals as goal

pub returns-clause-history : goal.returns-clause-history
returns-clause-history g c fair promised =
    let cache = ap (λ (i : Inside g.row.N.Denot g.row.S.Denot g.row.S-Receipt.Denot). i.cache) c.self-inside.view_is in
    let version = c.deref.ensures ∙ ap (λ (d : KnownVersion). d.version) cache ∙ ap (λ (r : Learnt). r.version) c.self.view_is in
    let knows : KnowsAll c.args.self.now = subst KnowsAll c.self.view_is (subst (λ (d : KnownVersion). AnswersAll d.version d.snapshots d.history) cache (c.self-inside.invariant.0 fair)) in
    let scanned = subst (λ (v : Levels). IfOk c.scan_from_by.result (λ s. IsScan c.args.seq (at_or_past c.args.from.now (all_entries (files v))) s.left)) version (c.scan_from_by.ensures.scanned fair) in
    past_shown (λ s. s.left) c.scan_from_by.result c.args.self.now c.args.from.now c.args.seq knows promised scanned
