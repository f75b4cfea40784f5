use Rattle.lsm_crash.proofs.Lives.{ages_keep, ages_sound, from_nothing}
use Rattle.lsm_crash.proofs.Answering.{deed_reads, made_answers, works_read}
use Rattle.lsm_crash.proofs.states.ingests_survive_crashes.Goals as goal

pub returns-clause-lives : goal.returns-clause-lives
returns-clause-lives g c = λ lives v es w u d e i f seven a h.
    ages_keep c.changed_tables.ensures g.P.Premise.holds c.runs_read_all_that_came.ensures lives v es w u d e i f seven a h

pub returns-clause-works : goal.returns-clause-works
returns-clause-works g c = λ board turns old now w u d e es fair l h a. works_read g.P.Premise.holds c.runs_read_all_that_came.ensures board fair turns old now w u d e es l h a

pub returns-clause-made : goal.returns-clause-made
returns-clause-made g c = made_answers

pub returns-clause-one : goal.returns-clause-one
returns-clause-one g c = λ board old new deed asks es fair l a follows answers. deed_reads g.P.Premise.holds c.runs_read_all_that_came.ensures board fair old new deed asks es l a follows answers

pub returns-clause-sound : goal.returns-clause-sound
returns-clause-sound g c = λ lives v es w u d e i f seven a sound h.
    ages_sound c.changed_tables.ensures g.P.Premise.holds c.runs_read_all_that_came.ensures lives v es w u d e i f seven a sound h

pub returns-clause-new : goal.returns-clause-new
returns-clause-new g c = λ tries lives d e o vacant h. from_nothing c.changed_tables.ensures g.P.Premise.holds c.runs_read_all_that_came.ensures tries lives d e o vacant h
