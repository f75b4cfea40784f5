use Rattle.std.proofs.Common.{ℕ, ◌<◌, ◌≤◌}
use Rattle.lsm_version.specs.Versions.{level_in}
use Rattle.lsm_picker.specs.Stairs.{IsBeyond}
use Rattle.lsm_picker.proofs.outermost.is_beyond_from.Given as goal

abbrev pub invariant-loop-level : goal.invariant-loop-level
invariant-loop-level g l = (n : ℕ) → l.first ≤ n → n < l.level
    → IsBeyond l.rising l.table (level_in l.version.tables n)
