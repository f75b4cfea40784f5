use Rattle.lsm_model.proofs.Witness.{an_install, an_ingest, a_wide_level}
use Rattle.lsm_model.proofs.laws.premises_are_met.Goals as goal

pub returns-clause-install : goal.returns-clause-install
returns-clause-install c = an_install

pub returns-clause-ingest : goal.returns-clause-ingest
returns-clause-ingest c = an_ingest

pub returns-clause-wide : goal.returns-clause-wide
returns-clause-wide c = a_wide_level
