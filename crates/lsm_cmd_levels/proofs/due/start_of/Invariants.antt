use Rattle.std.proofs.Common.{take}
use Rattle.lsm_cmd_levels.specs.Dues.{NoneBeyond}
use Rattle.lsm_cmd_levels.proofs.due.start_of.Given as goal

-- none of the files so far
abbrev pub invariant-loop-file : goal.invariant-loop-file
invariant-loop-file l = NoneBeyond l.pointer (take l.file-index l.files)
