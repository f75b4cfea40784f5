use Rattle.lsm_crash.proofs.Examples.{all_fail, builds_can, first_lives, ingest_cut, looks_can, refused_collect, refused_gather, refused_ingest, refused_install, small_ages}
use Rattle.lsm_crash.proofs.Possible.{given_shows, opened_can, small_run, works_can}
use Rattle.lsm_crash.proofs.states.premises_of_runs_are_met.Goals as goal

pub returns-clause-answered : goal.returns-clause-answered
returns-clause-answered g c = λ board old new deed asks w v d l i o free a ready to f. works_can g.P.Premise.holds board old new w v d i o free deed asks l a ready to f

pub returns-clause-opened : goal.returns-clause-opened
returns-clause-opened g c = λ limit h d asks tables p made. opened_can g.P.Premise.holds limit h d p asks made tables

pub returns-clause-small : goal.returns-clause-small
returns-clause-small g c = λ board h new first asks ws r v s l ln m made to a later f. small_run c.changed_tables.ensures g.P.Premise.holds board h new m first asks ws r v s l ln made to a later f

pub returns-clause-given : goal.returns-clause-given
returns-clause-given g c = given_shows

pub returns-clause-looks : goal.returns-clause-looks
returns-clause-looks g c = λ board. looks_can g.P.Premise.holds board

pub returns-clause-builds : goal.returns-clause-builds
returns-clause-builds g c = λ board. builds_can g.P.Premise.holds board

pub returns-clause-fails : goal.returns-clause-fails
returns-clause-fails g c = all_fail

pub returns-clause-ingest_err : goal.returns-clause-ingest_err
returns-clause-ingest_err g c = λ board. refused_ingest g.P.Premise.holds board

pub returns-clause-gather_err : goal.returns-clause-gather_err
returns-clause-gather_err g c = λ board. refused_gather g.P.Premise.holds board

pub returns-clause-install_err : goal.returns-clause-install_err
returns-clause-install_err g c = λ board. refused_install g.P.Premise.holds board

pub returns-clause-collect_err : goal.returns-clause-collect_err
returns-clause-collect_err g c = λ board. refused_collect g.P.Premise.holds board

pub returns-clause-cut : goal.returns-clause-cut
returns-clause-cut g c = λ board. ingest_cut g.P.Premise.holds board

pub returns-clause-ages : goal.returns-clause-ages
returns-clause-ages g c = λ board limit h now new ws xs r s w d one two settled free opens.
    small_ages c.changed_tables.ensures g.P.Premise.holds board limit h now new ws xs r s w d one.was one.is two.was two.is one.before one.after two.after settled free opens
    one.welcome one.ingests one.event two.welcome two.ingests two.event

pub returns-clause-new : goal.returns-clause-new
returns-clause-new g c = λ board h new ws r made one.
    first_lives g.P.Premise.holds board h made one.before c.changed_tables.ensures new ws r one.was one.is one.after one.welcome one.ingests one.event
