use Rattle.std.specs.Prelude.{string_bytes}
use Rattle.std.proofs.lemmas.List.Sorted.{IsPermutation-map}
use Rattle.lsm_directory.proofs.LookLaws.{names_ascend}
use Rattle.lsm_directory.proofs.folder.looking.in_order.Goals as goal

pub returns-in-Ok-clause-same : goal.returns-in-Ok-clause-same
returns-in-Ok-clause-same c = IsPermutation-map string_bytes _ _ c.sort.ensures.permutation

pub returns-in-Ok-clause-ascending : goal.returns-in-Ok-clause-ascending
returns-in-Ok-clause-ascending c = names_ascend _ c.in-Ok.ensures.sorted
