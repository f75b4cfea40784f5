use Rattle.lsm_repair.proofs.OldLaws.{records_all}
use Rattle.lsm_repair.proofs.old_manifest.first_records.Goals as goal

pub returns-in-Ok-clause-records : goal.returns-in-Ok-clause-records
returns-in-Ok-clause-records c =
    records_all c.args.bytes.now _ c.in-Ok.ensures.exact
