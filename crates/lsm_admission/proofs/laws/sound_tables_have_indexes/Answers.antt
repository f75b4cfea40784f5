use Rattle.lsm_admission.proofs.IndexLaws.{sound_has, sound_refused}
use Rattle.lsm_admission.proofs.laws.sound_tables_have_indexes.Goals as goal

pub returns-clause-indexes : goal.returns-clause-indexes
returns-clause-indexes g c = sound_has

pub returns-clause-refused : goal.returns-clause-refused
returns-clause-refused g c = λ v number fault honest sound refused.
    sound_refused (g.S.Shelf.refuses g.N.Naming.place) g.S.Shelf.honest v number fault honest sound
    refused
