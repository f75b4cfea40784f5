use Rattle.lsm_crash.proofs.Turning.{cut_leaves, rest_leaves, works_keep}
use Rattle.lsm_crash.proofs.states.crashes_leave_a_version.Goals as goal

pub returns-clause-keeps : goal.returns-clause-keeps
returns-clause-keeps g c = λ board turns old now w u d e l i o h. works_keep c.changed_tables.ensures g.P.Premise.holds board turns old now w u d e l i o h

pub returns-clause-between : goal.returns-clause-between
returns-clause-between g c = λ board turns old now w u d e found l i o h left. rest_leaves c.changed_tables.ensures g.P.Premise.holds board turns old now w u d e found l i o h left

pub returns-clause-within : goal.returns-clause-within
returns-clause-within g c = λ board turns old now new deed w u known d mid e found l i o h cut left.
    let r = works_keep c.changed_tables.ensures g.P.Premise.holds board turns old now w u d mid l i o h in
    cut_leaves c.changed_tables.ensures g.P.Premise.holds board now new deed u known mid e found r.2 r.0 r.1 cut left
