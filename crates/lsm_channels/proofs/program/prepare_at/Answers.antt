use Rattle.std.proofs.Common.{ap, inl, inr, refl, subst}
use Rattle.lsm_opening.specs.Preparing.{IsPrepared, IsUnprepared, plainly}
use Rattle.lsm_opening.specs.WriterFault.{of_shelf}
use Rattle.lsm_requests.specs.declared.ingest_options.IngestOptions.{IngestOptions}
use Rattle.lsm_channels.proofs.RunLaws.{folder_at}
use Rattle.lsm_channels.proofs.program.prepare_at.Goals as goal

pub returns-in-None-clause-refused : goal.returns-in-None-clause-refused
returns-in-None-clause-refused g c = inl refl

pub returns-in-Err-clause-refused : goal.returns-in-Err-clause-refused
returns-in-Err-clause-refused g c =
    inr (inl (c.in-Err.fault, ap of_shelf c.device.ensures, c.in-Err.ensures.refused))

pub returns-in-Ok-prepare-clause-prepared : goal.returns-in-Ok-prepare-clause-prepared
returns-in-Ok-prepare-clause-prepared g c =
    let calls = g.C.FolderCalls.calls in
    let start = c.in-Ok-prepare.prepared.start in
    let logs = c.in-Ok-prepare.prepared.logs.items in
    folder_at g.C.FolderCalls c.args.path.now (IsPrepared plainly start logs) c.in-Ok.folder
    c.prepare.new.folder c.in-Ok.ensures.place c.in-Ok.ensures.calls
    (subst
    (λ (o : IngestOptions). IsPrepared o start logs (calls c.in-Ok.folder)
    (calls c.prepare.new.folder))
    c.plainly.ensures c.in-Ok-prepare.ensures.prepared)
    c.prepare.ensures.place

pub returns-in-Err-prepare-clause-refused : goal.returns-in-Err-prepare-clause-refused
returns-in-Err-prepare-clause-refused g c =
    let calls = g.C.FolderCalls.calls in
    let fault = c.in-Err-prepare.fault in
    inr (inr (
      c.prepare.new.folder,
      folder_at g.C.FolderCalls c.args.path.now (IsUnprepared plainly fault) c.in-Ok.folder
          c.prepare.new.folder c.in-Ok.ensures.place c.in-Ok.ensures.calls
          (subst
          (λ (o : IngestOptions). IsUnprepared o fault (calls c.in-Ok.folder)
          (calls c.prepare.new.folder))
          c.plainly.ensures c.in-Err-prepare.ensures.refused)
          c.prepare.ensures.place,
    ))
