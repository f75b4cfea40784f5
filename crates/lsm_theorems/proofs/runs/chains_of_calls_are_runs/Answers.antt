use Rattle.lsm_theorems.proofs.ChainLaws.{chain_answered, chain_came, chain_reads, chain_run}
use Rattle.lsm_theorems.proofs.runs.chains_of_calls_are_runs.Goals as goal

pub returns-clause-run : goal.returns-clause-run
returns-clause-run g c = chain_run g.P.Premise.holds

pub returns-clause-reads : goal.returns-clause-reads
returns-clause-reads g c = λ board cs old new y l k. chain_reads g.P.Premise.holds board cs old new y l k

pub returns-clause-answered : goal.returns-clause-answered
returns-clause-answered g c = λ board cs old new l k. chain_answered g.P.Premise.holds cs old new l.law l.agrees k

pub returns-clause-came : goal.returns-clause-came
returns-clause-came g c = chain_came g.P.Premise.holds
