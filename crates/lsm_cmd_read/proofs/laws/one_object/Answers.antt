use Rattle.std.proofs.Common.{refl}
use Rattle.json.specs.Print.{print}
use Rattle.json.specs.Tree.{json_tokens}
use Rattle.lsm_cmd_read.specs.JsonLines.{json_line, pair_object}
use Rattle.lsm_cmd_read.proofs.JsonLaws.{one_pair, one_value}
use Rattle.lsm_cmd_read.proofs.laws.one_object.Goals as goal

pub returns-clause-value : goal.returns-clause-value
unfolding json_line
returns-clause-value c = λ p. (print (json_tokens (pair_object p)), refl, one_value p)

pub returns-clause-only : goal.returns-clause-only
returns-clause-only c = one_pair
