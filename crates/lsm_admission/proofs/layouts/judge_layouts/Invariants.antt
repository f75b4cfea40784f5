use Rattle.std.proofs.Common.{ℕ, ◌≤◌, ◌<◌, map}
use Rattle.lsm_verify.specs.LevelLayouts.{MeetNowhere}
use Rattle.lsm_version.specs.Versions.{level_in}
use Rattle.lsm_admission.proofs.layouts.judge_layouts.Given as goal

abbrev pub invariant-loop-number : goal.invariant-loop-number
invariant-loop-number g l = (n : ℕ) → 1 ≤ n → n < l.number
    → MeetNowhere (level_in (map (λ l. l.items) l.levels) n)
