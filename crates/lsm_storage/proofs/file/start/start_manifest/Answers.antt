use Rattle.std.proofs.Common.{ℕ, ◌∙◌, List, ap, inl, inr, refl, sym}
use Rattle.std.specs.Prelude.{Result, Some}
use Rattle.lsm_folder.specs.declared.folder_fault.FolderFault.{FolderFault}
use Rattle.lsm_storage.specs.Plans.{current_read}
use Rattle.lsm_storage.proofs.Following.{begun_stopped, other_is_named, text_is_named}
use Rattle.lsm_storage.proofs.Tables.{none_is, some_is}
use Rattle.lsm_storage.proofs.file.start.start_manifest.Goals as goal

-- `CURRENT` names this manifest
pub returns-in-Some-clause-err : goal.returns-in-Some-clause-err
returns-in-Some-clause-err g c =
    let read = c.in_ok-named.ensures.ok in
    let text =
    text_is_named c.args.number read.0 c.in_ok-named.field-0
    (c.in-Some.is ∙ ap Some c.if-named-number.true) read.2 in
    inr
    (inr
    (inl (
      read.1
          ∙ ap
          (λ (answer : Result (List ℕ) FolderFault). current_read answer
          (g.C.FolderCalls.calls c.args.folder.now)) text,
      refl,
    )))

-- it names another one, and the plan was begun
pub returns-in-Some-2-clause-err : goal.returns-in-Some-2-clause-err
returns-in-Some-2-clause-err g c =
    let read = c.in_ok-named.ensures.ok in
    let other =
    other_is_named c.args.number read.0 c.in_ok-named.field-0 c.ranges.number.fits
    (λ same. c.if-named-number.false
    (some_is c.in-Some.named c.args.number (sym c.in-Some.is ∙ same))) read.2 in
    begun_stopped _ _ read.0 _ _ _ c.follow_manifest.result read.1 other
    c.follow_manifest.ensures.err

-- it names none
pub returns-in-None-clause-err : goal.returns-in-None-clause-err
returns-in-None-clause-err g c =
    let read = c.in_ok-named.ensures.ok in
    let other =
    other_is_named c.args.number read.0 c.in_ok-named.field-0 c.ranges.number.fits
    (λ same. none_is c.args.number (sym c.in-None.is ∙ same)) read.2 in
    begun_stopped _ _ read.0 _ _ _ c.write_manifest.result read.1 other c.write_manifest.ensures.err
