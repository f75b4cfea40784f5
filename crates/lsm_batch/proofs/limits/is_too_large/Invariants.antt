use Rattle.std.proofs.Common.{◌≡◌, ◌≤◌, sum_by, take}
use Rattle.lsm_codec.specs.Lists.{Has}
use Rattle.lsm_batch.specs.declared.write.Write.{Write}
use Rattle.lsm_batch.specs.Batches.{IsLarge, size_of}
use Rattle.lsm_batch.specs.Limits.{most_bytes}
use Rattle.lsm_batch.proofs.limits.is_too_large.Given as goal

abbrev pub invariant-loop-write : goal.invariant-loop-write
invariant-loop-write l = record {
  sum : l.bytes ≡ sum_by size_of (take l.write-index l.writes);
  most : l.bytes ≤ most_bytes;
  small : (w : Write) → Has (take l.write-index l.writes) w → IsLarge w → ⊥;
}
