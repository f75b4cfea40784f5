use Rattle.lsm_cmd_import.proofs.RunLaws.{no_target}
use Rattle.lsm_cmd_import.proofs.program.open_target.Goals as goal

pub returns-in-Err-prepare-clause-refused : goal.returns-in-Err-prepare-clause-refused
returns-in-Err-prepare-clause-refused g c =
    no_target g.C.FolderCalls c.args.path.now c.in-Ok.folder c.prepare.new.folder c.in-Err-prepare.fault c.in-Ok.ensures.place c.in-Ok.ensures.calls
    (rw c.plainly.ensures at c.in-Err-prepare.ensures.refused) c.prepare.ensures.place
