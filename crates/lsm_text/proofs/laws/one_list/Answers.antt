use Rattle.lsm_text.proofs.ListLaws.{one_list_lem, one_bad, not_both, list_or_bad}
use Rattle.lsm_text.proofs.laws.one_list.Goals as goal

pub returns-clause-either : goal.returns-clause-either
returns-clause-either c = list_or_bad

pub returns-clause-list : goal.returns-clause-list
returns-clause-list c = one_list_lem

pub returns-clause-both : goal.returns-clause-both
returns-clause-both c = not_both

pub returns-clause-line : goal.returns-clause-line
returns-clause-line c = one_bad
