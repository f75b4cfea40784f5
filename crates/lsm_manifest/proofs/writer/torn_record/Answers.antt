use Rattle.lsm_manifest.proofs.TornLaws.{torn, done, again}
use Rattle.lsm_manifest.proofs.writer.torn_record.Goals as goal

pub returns-clause-torn : goal.returns-clause-torn
returns-clause-torn c = torn

pub returns-clause-done : goal.returns-clause-done
returns-clause-done c = done

pub returns-clause-again : goal.returns-clause-again
returns-clause-again c = again
