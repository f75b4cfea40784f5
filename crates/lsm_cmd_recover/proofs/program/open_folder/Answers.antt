use Rattle.lsm_cmd_recover.proofs.RunLaws.{unready}
use Rattle.lsm_cmd_recover.proofs.program.open_folder.Goals as goal

pub returns-in-Err-prepare-clause-refused : goal.returns-in-Err-prepare-clause-refused
returns-in-Err-prepare-clause-refused g c =
    unready g.C.FolderCalls c.args.options c.args.path.now c.in-Ok.folder c.prepare.new.folder
    c.in-Err-prepare.fault c.in-Ok.ensures.place c.in-Ok.ensures.calls
    c.in-Err-prepare.ensures.refused c.prepare.ensures.place
