use Rattle.std.proofs.Common.{◌∙◌}
use Rattle.lsm_verify.proofs.AgeLaws.{among_found}
use Rattle.lsm_verify.proofs.ages.is_among.Goals as goal

pub returns : goal.returns
returns c = c.is_ok.ensures.value ∙ among_found c.args.numbers.now c.args.number c.binary_search.result c.binary_search.ensures.position c.requires
