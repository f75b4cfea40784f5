use Rattle.std.proofs.Common.{rules}
use Rattle.std.proofs.lemmas.List.Sorted.{answers_always}
use Rattle.lsm_manifest.proofs.LevelLaws.{file_lt, file_ranks, level_held}
use Rattle.lsm_manifest.proofs.standing.Standing.level.Goals as goal

pub returns : goal.returns
returns c = λ es t.
    let sorted = c.sort_unstable_by.ensures.sorted file_lt file_ranks (answers_always _ _ _ (λ f a r g h. search rules)) in
    rw c.of.ensures
    (level_held es c.args.self.now c.args.level c.in_ok-files.files.items c.sort_unstable_by.new.self.items t c.in_ok-files.ensures.ordered c.in_ok-files.ensures.files c.sort_unstable_by.ensures.permutation sorted)
