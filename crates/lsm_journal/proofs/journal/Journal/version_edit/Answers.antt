use Rattle.std.proofs.Common.{◌∙◌, ap}
use Rattle.std.proofs.lemmas.Result.{IfOk-weaker}
use Rattle.lsm_manifest.specs.WholeEdit.{whole_edit}
use Rattle.lsm_journal.specs.HeldManifest.{HeldManifest}
use Rattle.lsm_journal.proofs.Wholes.{shape_is, version_ready}
use Rattle.lsm_journal.proofs.journal.Journal.version_edit.Goals as goal

pub returns-clause-fit : goal.returns-clause-fit
returns-clause-fit g c =
    let h : HeldManifest = record { number = c.self.inside.number; bytes = c.self.inside.bytes.items; log = c.self.inside.log; prev_log = c.self.inside.prev_log; limit = c.self.inside.limit } in
    IfOk-weaker _ _ _
    (λ edit e. version_ready edit h c.args.version.now c.args.next
    (e ∙ ap whole_edit (shape_is h c.args.version.now c.args.next c.in_ok-levels.levels c.in_ok-pointers.pointers c.last-last.result c.in_ok-levels.ensures c.in_ok-pointers.ensures c.last-last.ensures.last))
    c.last-last.ensures.levels c.last-last.ensures.pointers c.requires.keys) c.whole.ensures
