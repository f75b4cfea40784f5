use Rattle.lsm_store.proofs.FoundLaws.{left_kept, left_looked, left_out}
use Rattle.lsm_store.proofs.laws.what_was_found_is_kept.Goals as goal

pub returns-clause-kept : goal.returns-clause-kept
returns-clause-kept g c = left_kept g.P.Premise.holds

pub returns-clause-out : goal.returns-clause-out
returns-clause-out g c = left_out g.P.Premise.holds

pub returns-clause-looked : goal.returns-clause-looked
returns-clause-looked g c = left_looked g.P.Premise.holds
