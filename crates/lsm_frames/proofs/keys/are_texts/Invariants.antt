use Rattle.std.proofs.Common.{◌≡◌, is_some, length}
use Rattle.lsm_frames.specs.Reading.{items_in, text_at}
use Rattle.lsm_frames.proofs.keys.are_texts.Given as goal

abbrev pub invariant-loop-rest : goal.invariant-loop-rest
invariant-loop-rest l = is_some (items_in text_at l.rest) ≡ is_some (items_in text_at l.bytes)

abbrev pub decreases-loop-rest : goal.decreases-loop-rest
decreases-loop-rest l = length l.rest
