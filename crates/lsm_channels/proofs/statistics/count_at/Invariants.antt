use Rattle.std.proofs.Common.{◌≡◌, ◌≤◌, length, take}
use Rattle.lsm_channels.specs.Counting.{files_at}
use Rattle.lsm_channels.proofs.statistics.count_at.Given as goal

abbrev pub invariant-loop-file : goal.invariant-loop-file
invariant-loop-file l = record {
  count : l.count ≡ length (files_at l.level (take l.file-index l.files));
  few : l.count ≤ l.file-index;
}
