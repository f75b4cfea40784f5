use Rattle.lsm_crash.proofs.Making.{made_finds, made_settled, made_world, making_cut, making_done}
use Rattle.lsm_crash.proofs.states.databases_are_made_or_not.Goals as goal

pub returns-clause-made : goal.returns-clause-made
returns-clause-made g c = λ board h d e v asks l vacant m made to done.
    (made_settled g.P.Premise.holds board h v l.0 m to d e vacant (making_done h m asks made d e done), made_world g.P.Premise.holds board h v l.0 m to)

pub returns-clause-cut : goal.returns-clause-cut
returns-clause-cut g c = λ board h d e v asks found l vacant m made to cut left.
    made_finds g.P.Premise.holds board h v l.0 m to d e found vacant (making_cut h m asks made d e cut) left
