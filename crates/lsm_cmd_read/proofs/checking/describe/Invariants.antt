use Rattle.std.proofs.Common.{◌≡◌}
use Rattle.lsm_version.specs.Versions.{level_in}
use Rattle.lsm_cmd_read.specs.Listing.{level_line, level_texts}
use Rattle.lsm_cmd_read.proofs.checking.describe.Given as goal

abbrev pub invariant-loop-level : goal.invariant-loop-level
invariant-loop-level g l =
    l.text.items ≡ level_texts (λ n. level_line n (level_in l.opened.version.tables n)) l.level
