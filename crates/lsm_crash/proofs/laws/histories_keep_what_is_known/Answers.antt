use Rattle.lsm_crash.proofs.Histories.{history_keeps, one_version, read_is}
use Rattle.lsm_crash.proofs.laws.histories_keep_what_is_known.Goals as goal

pub returns-clause-kept : goal.returns-clause-kept
returns-clause-kept c = history_keeps

pub returns-clause-read : goal.returns-clause-read
returns-clause-read c = λ known found w r i. read_is known found r w i

pub returns-clause-one : goal.returns-clause-one
returns-clause-one c = one_version
