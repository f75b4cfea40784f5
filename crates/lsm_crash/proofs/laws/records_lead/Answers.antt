use Rattle.lsm_crash.proofs.Leading.{leads_whole, leads_cut}
use Rattle.lsm_crash.proofs.laws.records_lead.Goals as goal

pub returns-clause-whole : goal.returns-clause-whole
returns-clause-whole c = leads_whole

pub returns-clause-cut : goal.returns-clause-cut
returns-clause-cut c = leads_cut
