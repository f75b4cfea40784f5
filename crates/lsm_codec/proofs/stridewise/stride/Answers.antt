use Rattle.std.proofs.Common.{◌∙◌, ◌∷◌, []}
use Rattle.lsm_codec.specs.Words.{after_parts}
use Rattle.lsm_codec.proofs.WordLaws.{stride_four}
use Rattle.lsm_codec.proofs.stridewise.stride.Goals as goal

pub returns : goal.returns
returns c =
    let old = c.args.state in
    let new = c.read-new.result in
    rw (c.far.ensures, c.far-2.ensures, c.far-3.ensures, c.far-4.ensures)
    (c.read-new.ensures (after_parts 64 0 (old.first ∷ old.second ∷ old.third ∷ old.fourth ∷ []))
    ∙ stride_four old.first old.second old.third old.fourth new.first new.second new.third new.fourth)
