use Rattle.std.proofs.Common.{◌≡◌}
use Rattle.lsm_version.specs.Versions.{level_in}
use Rattle.lsm_cmd_read.specs.Listing.{file_lines, level_texts}
use Rattle.lsm_cmd_read.proofs.listing.list_files.Given as goal

abbrev pub invariant-loop-level : goal.invariant-loop-level
invariant-loop-level g l =
    l.text.items ≡ level_texts (λ n. file_lines l.form n (level_in l.version.tables n)) l.level
