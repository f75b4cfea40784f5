use Rattle.std.proofs.Common.{take}
use Rattle.lsm_log_files.specs.Logs.{AreNumbers}
use Rattle.lsm_log_files.proofs.log_files.numbers_read.Given as goal

-- the numbers of the files so far
abbrev pub invariant-loop-file : goal.invariant-loop-file
invariant-loop-file l = AreNumbers l.log l.prev_log (take l.file-index l.files) l.numbers.items
