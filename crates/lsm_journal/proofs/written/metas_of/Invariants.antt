use Rattle.std.proofs.Common.{◌≡◌, take, map}
use Rattle.lsm_journal.specs.Recorded.{meta_of}
use Rattle.lsm_journal.proofs.written.metas_of.Given as goal

abbrev pub invariant-loop-table : goal.invariant-loop-table
invariant-loop-table g l = l.files.items ≡ map meta_of (take l.table-index l.level)
