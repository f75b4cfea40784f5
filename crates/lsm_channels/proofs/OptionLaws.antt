-- Options with a reader for each channel are in range.
use Rattle.std.proofs.Common.{ℕ, ◌≤◌, ◌/◌, arith}
use Rattle.std.proofs.Math.Nat.{div-le_self, le-max_right, max-le}
use Rattle.lsm_state.specs.Options.{Fits}
use Rattle.lsm_channels.specs.Starting.{options_for}

pub options_fit : (channels : ℕ) → 1 ≤ channels → channels ≤ 62 → Fits (options_for channels)
options_fit channels some few = record {
  sizes = record {
    block_size_least = omega arith;
    block_size_most = omega arith;
    restart_interval_least = omega arith;
    restart_interval_most = omega arith;
  };
  others = record {
    target_least = omega arith;
    target_most = omega arith;
    cache_least = (let a = le-max_right (2048 / channels) 64 in omega arith);
    cache_most = max-le (let a = div-le_self 2048 channels in omega arith) (omega arith);
    manifest_least = omega arith;
    manifest_most = omega arith;
  };
  seats = record {
    readers_least = some;
    readers_most = few;
    versions_least = omega arith;
    versions_most = omega arith;
    enough = omega arith;
  };
}
