-- What is sent makes what is held and what the shelf was sent grow alike.
use Rattle.std.proofs.Common.{◌≡◌, ◌+◌, List, [], ℕ, sym, subst, ap, ◌∙◌}
use Rattle.lsm_manifest.specs.Edit.{IsEdit}
use Rattle.lsm_manifest.specs.EditFit.{Change}
use Rattle.lsm_manifest.specs.EditWriting.{edit_text}
use Rattle.lsm_version.specs.Versions.{no_levels}
use Rattle.lsm_journal.specs.Recorded.{IsRecorded}
use Rattle.lsm_journal.specs.declared.manifest_limit.ManifestLimit.{ManifestLimit}
use Rattle.lsm_journal.specs.Writing.{first_edit_under, record_of}
use Rattle.lsm_journal.proofs.Recording.{created_recorded}
use Rattle.lsm_journal.proofs.journal.Journal.create_under.Goals as goal

first_recorded : (number : ℕ) (limit : ManifestLimit) (edit : Change) (bytes : List ℕ) → edit ≡ first_edit_under number → bytes ≡ record_of [] edit → IsEdit (edit_text edit) edit
    → IsRecorded 0 (record { number = number; bytes = bytes; log = 0; prev_log = 0; limit = limit }) no_levels (number + 1)
first_recorded number limit edit bytes e b spelled =
    subst (λ (x : List ℕ). IsRecorded 0 (record { number = number; bytes = x; log = 0; prev_log = 0; limit = limit }) no_levels (number + 1)) (sym (b ∙ ap (record_of []) e))
    (created_recorded number limit (subst (λ (x : Change). IsEdit (edit_text x) x) e spelled))

pub returns-clause-recorded : goal.returns-clause-recorded
returns-clause-recorded g c = first_recorded c.args.number c.args.limit c.in_ok-edit.edit c.in_ok-bytes.bytes.items c.in_ok-edit.ensures c.in_ok-bytes.ensures.bytes c.in_ok-bytes.ensures.spelled
