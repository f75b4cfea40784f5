use Rattle.lsm_codec.specs.KeyRef.{key_of}
use Rattle.lsm_verify.proofs.Spans.{walk_says}
use Rattle.lsm_verify.proofs.span.sequences_of.Goals as goal

pub returns : goal.returns
returns c =
    walk_says c.args.last c.args.smallest.now c.args.largest.now c.args.table.now (key_of c.in-Ok.first) (key_of c.in-Ok-split.end) c.in_ok-walked.walked
    c.in-Ok.ensures.found c.in-Ok-split.ensures.found (λ key k. (c.in-Ok.ensures.only key k).0) (λ key k. (c.in-Ok-split.ensures.only key k).0) c.requires c.in_ok-walked.ensures
