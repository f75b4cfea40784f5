use Rattle.lsm_merge.proofs.InputLaws.{all_whole}
use Rattle.lsm_merge.proofs.inputs.open_run.Goals as goal

pub over_by-requires-clause-tables : goal.over_by-requires-clause-tables
over_by-requires-clause-tables g c = λ lts lives honest. all_whole c.args.tables.now (c.requires.whole honest)
