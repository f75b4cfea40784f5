use Rattle.std.proofs.Common.{◌∙◌}
use Rattle.lsm_state.proofs.Numbers.{found_among}
use Rattle.lsm_state.proofs.collect.is_among.Goals as goal

pub returns : goal.returns
returns c up = c.is_ok.ensures.value ∙ found_among c.args.numbers.now c.args.number c.binary_search.result c.binary_search.ensures.position up
