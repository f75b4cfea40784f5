use Rattle.std.proofs.Common.{◌≡◌, ◌∙◌, ℕ, List, ap, get_or}
use Rattle.lsm_version.specs.Versions.{level_in}
use Rattle.lsm_cmd_read.specs.Listing.{count_of, level_line}
use Rattle.lsm_cmd_read.proofs.LevelLaws.{count_in_level, level_more}
use Rattle.lsm_cmd_read.proofs.checking.describe.Goals as goal

pub push_level-requires-clause-entries : goal.push_level-requires-clause-entries
push_level-requires-clause-entries g c κs within =
    let tables = c.args.opened.now.version.tables in
    let at : c.count_at-entries.result ≡ count_of (level_in tables c.loop-level.level) =
    c.count_at-entries.ensures ∙ ap (λ (ns : List ℕ). get_or ns c.loop-level.level 0)
    (c.as_slice-counts.ensures.value ∙ c.args.opened.now.counted)
    ∙ count_in_level tables c.loop-level.level in
    rw c.level.ensures at

pub loop-level-preserved : goal.loop-level-preserved
loop-level-preserved g c =
    level_more (λ n. level_line n (level_in c.args.opened.now.version.tables n)) c.loop-level.level
    c.loop-level.text.items c.push_level.new.out.items c.loop-level.invariant
    (rw c.level.ensures at c.in_ok-push_level.ensures)
