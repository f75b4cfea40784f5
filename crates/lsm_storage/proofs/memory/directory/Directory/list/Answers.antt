use Rattle.std.proofs.Common.{rules}
use Rattle.std.specs.BTreeMap.{keys}
use Rattle.std.proofs.lemmas.Map.Keys.{IsStrictlyIncreasing-from_sorted}
use Rattle.lsm_storage.proofs.Ascending.{ascending_as}
use Rattle.lsm_storage.proofs.memory.directory.Directory.list.Goals as goal

-- the keys of a map are in order
pub returns-clause-ascending : goal.returns-clause-ascending
returns-clause-ascending c = ascending_as (λ v. v.items) c.collect.result (keys c.args.self.now.tables) (search rules) (IsStrictlyIncreasing-from_sorted _ c.keys.ensures.ordered)
