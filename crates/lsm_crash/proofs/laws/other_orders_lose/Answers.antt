use Rattle.lsm_crash.proofs.Instances.{append_unsynced, manifest_unsynced, name_unsynced, table_unsynced}
use Rattle.lsm_crash.proofs.Width.{dropped_early}
use Rattle.lsm_crash.proofs.laws.other_orders_lose.Goals as goal

pub returns-clause-table : goal.returns-clause-table
returns-clause-table c = table_unsynced

pub returns-clause-name : goal.returns-clause-name
returns-clause-name c = name_unsynced

pub returns-clause-unsynced : goal.returns-clause-unsynced
returns-clause-unsynced c = append_unsynced

pub returns-clause-manifest : goal.returns-clause-manifest
returns-clause-manifest c = manifest_unsynced

pub returns-clause-early : goal.returns-clause-early
returns-clause-early c = dropped_early
