use Rattle.std.proofs.Common.{Err, Ok}
use Rattle.lsm_log_files.proofs.ReadLaws.{reads_one}
use Rattle.lsm_log_files.proofs.reading.load_log.Goals as goal

pub returns-in-Ok-clause-reads : goal.returns-in-Ok-clause-reads
returns-in-Ok-clause-reads g c = reads_one c.as_str.result.now (Ok c.in-Ok.bytes.items)
    (g.C.FolderCalls.calls c.args.folder.now) (g.C.FolderCalls.calls c.load.new.self)
    c.in-Ok.ensures.noted

pub returns-clause-reads : goal.returns-clause-reads
returns-clause-reads g c = reads_one c.as_str.result.now (Err c.in-Err.fault)
    (g.C.FolderCalls.calls c.args.folder.now) (g.C.FolderCalls.calls c.load.new.self)
    c.in-Err.ensures.noted
