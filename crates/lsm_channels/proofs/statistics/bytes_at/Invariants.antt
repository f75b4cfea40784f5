use Rattle.std.proofs.Common.{◌≡◌, ◌*◌, ◌^◌, ◌≤◌, take, sum_by}
use Rattle.lsm_channels.specs.Counting.{files_at}
use Rattle.lsm_channels.proofs.statistics.bytes_at.Given as goal

abbrev pub invariant-loop-file : goal.invariant-loop-file
invariant-loop-file l = record {
  bytes : l.bytes ≡ sum_by (λ f. f.1.size) (files_at l.level (take l.file-index l.files));
  small : l.bytes ≤ l.file-index * 2 ^ 64;
}
