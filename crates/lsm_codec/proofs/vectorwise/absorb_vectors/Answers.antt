use Rattle.std.proofs.Common.{◌∙◌}
use Rattle.lsm_codec.proofs.WordLaws.{joins}
use Rattle.lsm_codec.proofs.vectorwise.absorb_vectors.Goals as goal

pub loop-rest-init : goal.loop-rest-init
loop-rest-init c =
    joins 128 _ _ c.args.bytes.now _ _ c.split_at.ensures.front c.split_at.ensures.back
    c.start-state.ensures

pub loop-rest-preserved : goal.loop-rest-preserved
loop-rest-preserved c =
    joins 32 _ _ c.loop-rest.rest.now _ _ c.split_at-in-loop-rest.ensures.front
    c.split_at-in-loop-rest.ensures.back c.slide-state.ensures
    ∙ c.loop-rest.invariant
