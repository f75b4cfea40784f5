use Rattle.std.proofs.Common.{◌≡◌, length}
use Rattle.lsm_codec.specs.Crc.{register_after}
use Rattle.lsm_codec.proofs.wordwise.absorb_words.Given as goal

abbrev pub invariant-loop-rest : goal.invariant-loop-rest
invariant-loop-rest l = register_after l.now l.rest ≡ register_after l.register l.bytes

abbrev pub decreases-loop-rest : goal.decreases-loop-rest
decreases-loop-rest l = length l.rest
