use Rattle.lsm_crash.proofs.Keeping.{counted_kept}
use Rattle.lsm_crash.proofs.Shown.{cut_shown, deed_written, lives_kept, made_kept, nothing_kept}
use Rattle.lsm_crash.proofs.Shown.{opened_kept, works_kept, world_kept}
use Rattle.lsm_crash.proofs.states.databases_keep_what_they_show.Goals as goal

pub returns-clause-version : goal.returns-clause-version
returns-clause-version g c = λ v bytes s tables sound has comes d.
    counted_kept v bytes s tables sound comes d has

pub returns-clause-world : goal.returns-clause-world
returns-clause-world g c = λ board h w l sound o comes.
    world_kept g.P.Premise.holds board h w l sound o comes

pub returns-clause-makes : goal.returns-clause-makes
returns-clause-makes g c = λ board h v fair l m to.
    made_kept g.P.Premise.holds board h v fair l m to

pub returns-clause-opens : goal.returns-clause-opens
returns-clause-opens g c = λ board limit h d known v fair l i p to.
    opened_kept g.P.Premise.holds board limit h d known v fair l i p to

pub returns-clause-writes : goal.returns-clause-writes
returns-clause-writes g c = λ board old new deed asks w v fair lo ln sound o comes a ready to.
    deed_written c.changed_tables.ensures g.P.Premise.holds board fair old new deed asks w v lo ln
    sound o comes a ready to

pub returns-clause-between : goal.returns-clause-between
returns-clause-between g c = λ board turns old now w u d e fair l sound i o h.
    works_kept c.changed_tables.ensures g.P.Premise.holds board fair turns old now w u d e l sound i
    o h

pub returns-clause-within : goal.returns-clause-within
returns-clause-within g c = λ board turns old now new deed w u known d mid e fair l sound i o h cut.
    cut_shown c.changed_tables.ensures g.P.Premise.holds board fair turns old now new deed w u known
    d mid e l sound i o h cut

pub returns-clause-lives : goal.returns-clause-lives
returns-clause-lives g c = λ lives v w u d e fair i s seven sound h.
    lives_kept c.changed_tables.ensures g.P.Premise.holds c.runs_read_all_that_came.ensures fair
    lives v w u d e i s seven sound h

pub returns-clause-new : goal.returns-clause-new
returns-clause-new g c = λ tries lives d e o fair vacant h.
    nothing_kept c.changed_tables.ensures g.P.Premise.holds c.runs_read_all_that_came.ensures fair
    tries lives d e o vacant h
