use Rattle.std.proofs.Common.{take, drop, sym, ap, ◌∙◌}
use Rattle.std.proofs.lemmas.List.{take-append-drop}
use Rattle.lsm_codec.specs.Crc.{register_after}
use Rattle.lsm_codec.proofs.Shifts.{register_after-append}
use Rattle.lsm_codec.proofs.wordwise.absorb_words.Goals as goal

pub loop-rest-preserved : goal.loop-rest-preserved
loop-rest-preserved c =
    let rest = c.loop-rest.rest.now in
    rw (c.split_at.ensures.back, c.block_step-now.ensures, c.split_at.ensures.front)
    (sym (register_after-append (take 8 rest) (drop 8 rest) c.loop-rest.now)
    ∙ ap (register_after c.loop-rest.now) (take-append-drop 8 rest)
    ∙ c.loop-rest.invariant)
