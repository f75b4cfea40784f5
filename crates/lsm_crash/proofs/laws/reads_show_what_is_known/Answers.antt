use Rattle.lsm_crash.proofs.Calls.{read_current, read_manifest}
use Rattle.lsm_crash.proofs.laws.reads_show_what_is_known.Goals as goal

pub returns-clause-current : goal.returns-clause-current
returns-clause-current c = λ known number d e i small h. read_current d e known number i small h

pub returns-clause-manifest : goal.returns-clause-manifest
returns-clause-manifest c = λ known number bytes d mid e i small h k. read_manifest d mid e known number bytes i small h k
