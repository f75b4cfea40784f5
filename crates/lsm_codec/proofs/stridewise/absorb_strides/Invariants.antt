use Rattle.std.proofs.Common.{◌≡◌, ◌∷◌, [], length}
use Rattle.lsm_codec.specs.Crc.{register_after}
use Rattle.lsm_codec.specs.Words.{after_parts}
use Rattle.lsm_codec.proofs.stridewise.absorb_strides.Given as goal

abbrev pub invariant-loop-rest : goal.invariant-loop-rest
invariant-loop-rest l =
    register_after (after_parts 64 0 (l.state.first ∷ l.state.second ∷ l.state.third
    ∷ l.state.fourth ∷ [])) l.rest
    ≡ register_after l.register l.bytes

abbrev pub decreases-loop-rest : goal.decreases-loop-rest
decreases-loop-rest l = length l.rest
