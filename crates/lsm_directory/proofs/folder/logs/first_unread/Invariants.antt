use Rattle.std.proofs.Common.{take}
use Rattle.lsm_directory.specs.Logs.{NoneUnread}
use Rattle.lsm_directory.proofs.folder.logs.first_unread.Given as goal

-- none of the files so far
abbrev pub invariant-loop-file : goal.invariant-loop-file
invariant-loop-file l = NoneUnread l.log l.prev_log (take l.file-index l.files)
