use Rattle.std.proofs.Common.{take}
use Rattle.lsm_directory.specs.Logs.{AppendsLogs, line_in}
use Rattle.lsm_directory.proofs.folder.logs.push_logs.Given as goal

-- the lines so far are those of the files so far
abbrev pub invariant-loop-file : goal.invariant-loop-file
invariant-loop-file l = AppendsLogs (line_in l.wording) l.log l.prev_log (take l.file-index l.files) l.initial.out.items l.out.items
