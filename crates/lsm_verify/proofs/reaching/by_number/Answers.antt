use Rattle.std.proofs.Common.{rules}
use Rattle.std.proofs.lemmas.List.Sorted.{IsNonDecreasingBy-from_sort_by_key}
use Rattle.lsm_version.specs.Versions.{files_of}
use Rattle.lsm_verify.proofs.ReachingFiles.{aged_moved}
use Rattle.lsm_verify.proofs.reaching.by_number.Goals as goal

pub returns-clause-ordered : goal.returns-clause-ordered
returns-clause-ordered g c = IsNonDecreasingBy-from_sort_by_key (λ a. a.number) _ c.sort_unstable_by_key.ensures.sorted (λ a r q k. search rules)

pub returns-clause-aged : goal.returns-clause-aged
returns-clause-aged g c = λ level.
    aged_moved (files_of level c.args.tables.now) c.in_ok-aged.aged.items c.sort_unstable_by_key.new.self.items c.sort_unstable_by_key.ensures.permutation (c.in_ok-aged.ensures level)
