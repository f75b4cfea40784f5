use Rattle.lsm_wal.proofs.EntryLaws.{newest_is_last}
use Rattle.lsm_wal.proofs.folding.newest_is_last.Goals as goal

pub returns : goal.returns
returns c = newest_is_last
