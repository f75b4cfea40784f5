use Rattle.lsm_cmd_levels.proofs.ScoreLaws.{score_is, weight_is}
use Rattle.lsm_cmd_levels.proofs.laws.scores_are_those_of_the_choice.Goals as goal

pub returns-clause-score : goal.returns-clause-score
returns-clause-score c = score_is

pub returns-clause-weight : goal.returns-clause-weight
returns-clause-weight c = weight_is
