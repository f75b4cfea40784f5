use Rattle.std.proofs.Common.{◌≡◌, take, map}
use Rattle.lsm_journal.specs.Writing.{placed}
use Rattle.lsm_journal.proofs.written.added_files.Given as goal

abbrev pub invariant-loop-one : goal.invariant-loop-one
invariant-loop-one g l = l.files.items ≡ map placed (take l.one-index l.added)
