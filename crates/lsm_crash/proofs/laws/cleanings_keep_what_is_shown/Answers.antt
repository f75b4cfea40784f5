use Rattle.lsm_crash.proofs.Cleaning.{cleans_settled, settled_less, shown_settles}
use Rattle.lsm_crash.proofs.laws.cleanings_keep_what_is_shown.Goals as goal

pub returns-clause-synced : goal.returns-clause-synced
returns-clause-synced c = shown_settles

pub returns-clause-fewer : goal.returns-clause-fewer
returns-clause-fewer c = settled_less

pub returns-clause-removed : goal.returns-clause-removed
returns-clause-removed c = cleans_settled
