use Rattle.std.proofs.Common.{suc, List, ◌≤◌, length, sym, ap, arith}
use Rattle.std.specs.List.{filter}
use Rattle.lsm_table.specs.Registry.{Table, bytes_of}
use Rattle.lsm_version.specs.Overlap.{meets}
use Rattle.lsm_picker.proofs.LevelFiles.{no_level}
use Rattle.lsm_picker.proofs.move_rule.bytes_below.Goals as goal

pub returns-then-below-gt6 : goal.returns-then-below-gt6
returns-then-below-gt6 g c =
    let seven = c.last-last.ensures.levels in
    let deep : length c.args.version.now.tables ≤ suc (suc c.args.plan.now.level) = omega (arith, seven, c.level.ensures.level, c.from-below.ensures, c.if-below-gt6.true) in
    sym (ap (λ (ts : List Table). bytes_of (filter (meets c.args.plan.now.low c.args.plan.now.high) ts)) (no_level c.args.version.now.tables (suc (suc c.args.plan.now.level)) deep))
