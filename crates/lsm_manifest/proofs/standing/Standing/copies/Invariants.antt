use Rattle.std.proofs.Common.{◌≡◌, ◌++◌, map}
use Rattle.lsm_manifest.specs.Level.{level_of, all_of}
use Rattle.lsm_manifest.proofs.standing.Standing.copies.Given as goal

abbrev pub invariant-loop-added : goal.invariant-loop-added
invariant-loop-added l = l.files.items ++ level_of l.level (map (λ a. a.now) l.added-iterator) ≡ level_of l.level (all_of l.self)
