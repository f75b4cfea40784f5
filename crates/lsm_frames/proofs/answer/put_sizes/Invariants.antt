use Rattle.std.proofs.Common.{◌≡◌, ◌++◌, take}
use Rattle.std.specs.List.{flat_map}
use Rattle.lsm_frames.specs.Answers.{size_text}
use Rattle.lsm_frames.proofs.answer.put_sizes.Given as goal

abbrev pub invariant-loop-level : goal.invariant-loop-level
invariant-loop-level l = l.out.items ≡ l.fn.out.items ++ flat_map size_text (take l.level-index l.levels)
