use Rattle.std.proofs.Common.{take}
use Rattle.lsm_cmd_levels.specs.Totals.{AreSums}
use Rattle.lsm_cmd_levels.proofs.folder_sums.FolderSums.of.Given as goal

-- of the files so far
abbrev pub invariant-loop-file : goal.invariant-loop-file
invariant-loop-file l = AreSums (take l.file-index l.files) l.sums
