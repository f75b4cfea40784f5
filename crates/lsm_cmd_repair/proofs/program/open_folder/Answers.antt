use Rattle.std.proofs.Common.{inr, refl}
use Rattle.lsm_directory.specs.Holding.{IsHeld, IsUnheld}
use Rattle.lsm_folder.specs.declared.lock_kind.LockKind.TheVariants.{Exclusive}
use Rattle.lsm_cmd_repair.proofs.RunLaws.{folder_at}
use Rattle.lsm_cmd_repair.proofs.program.open_folder.Goals as goal

pub returns-in-Err-hold-clause-refused : goal.returns-in-Err-hold-clause-refused
returns-in-Err-hold-clause-refused g c = inr (
  c.in-Err-hold.fault,
  refl,
  (
    c.hold.new.folder,
    folder_at g.C.FolderCalls c.args.path.now (IsUnheld Exclusive c.in-Err-hold.fault)
        c.in-Ok.folder c.hold.new.folder c.in-Ok.ensures.place c.in-Ok.ensures.calls
        c.in-Err-hold.ensures.refused c.hold.ensures.place,
  ),
)

pub returns-clause-opened : goal.returns-clause-opened
returns-clause-opened g c =
    folder_at g.C.FolderCalls c.args.path.now (IsHeld Exclusive) c.in-Ok.folder c.hold.new.folder
    c.in-Ok.ensures.place c.in-Ok.ensures.calls c.in-Ok-hold.ensures.held c.hold.ensures.place
