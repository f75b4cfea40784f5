use Rattle.std.proofs.Common.{◌∙◌}
use Rattle.lsm_codec.proofs.WordLaws.{start_four}
use Rattle.lsm_codec.proofs.stridewise.start.Goals as goal

pub returns : goal.returns
returns c =
    let new = c.read-new.result in
    c.read-new.ensures c.args.register ∙ start_four c.args.register new.first new.second new.third new.fourth
