use Rattle.std.proofs.Common.{◌≡◌, take}
use Rattle.std.specs.List.{filter}
use Rattle.lsm_verify.specs.Chosen.{is_among}
use Rattle.lsm_verify.proofs.ages.choose_level.Given as goal

abbrev pub invariant-loop-table : goal.invariant-loop-table
invariant-loop-table g l = l.tables.items ≡ filter (is_among l.numbers) (take l.table-index l.level)
