use Rattle.std.proofs.Common.{◌≡◌, take}
use Rattle.lsm_codec.specs.Crc.{register_after}
use Rattle.lsm_codec.proofs.bytewise.absorb_bytes.Given as goal

abbrev pub invariant-loop-byte : goal.invariant-loop-byte
invariant-loop-byte l = l.register ≡ register_after l.fn.register (take l.byte-index l.bytes)
