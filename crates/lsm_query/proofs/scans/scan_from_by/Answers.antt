use Rattle.std.proofs.Common.{◌≡◌, ◌∙◌, ap, sym, subst, map, None, List}
use Rattle.lsm_table.specs.Registry.{Table}
use Rattle.lsm_model.specs.Files.{IsLawful, all_entries}
use Rattle.lsm_model.specs.Merging.{Placed, entries_of, merge_all}
use Rattle.lsm_model.specs.Scanning.{IsScan, pairs_of}
use Rattle.lsm_iterators.specs.Seeking.{at_or_past}
use Rattle.lsm_iterators.specs.Shown.{Showing}
use Rattle.lsm_query.specs.Runs.{AreMergeable}
use Rattle.lsm_version.specs.Versions.{files_from, level_in}
use Rattle.lsm_query.proofs.ScanLaws.{scan_of, sound_mergeable}
use Rattle.lsm_query.proofs.scans.scan_from_by.Goals as goal

pub open_runs_from-requires-clause-mergeable : goal.open_runs_from-requires-clause-mergeable
open_runs_from-requires-clause-mergeable g c κs within = λ h.
    subst (λ (ls : List (List Table)). AreMergeable ls) (sym c.in_ok-levels.ensures) (sound_mergeable c.args.version.now (c.last-last.ensures.sound h) c.last-last.ensures.order)

pub returns-clause-scanned : goal.returns-clause-scanned
returns-clause-scanned g c = λ h.
    let s = c.args.seq in
    let runs = c.in-Ok.ensures.runs h in
    let ls : List (List Placed) = map (λ r. r.placed) c.in-Ok.runs.items in
    let tables : List (List Table) = c.in_ok-levels.levels in
    let left : c.new-2.result.left ≡ pairs_of s None (entries_of (merge_all ls)) =
    ap (λ (v : Showing). v.left) c.new-2.ensures ∙ ap (λ (ps : List Placed). pairs_of s None (entries_of ps)) c.in_ok-merger.ensures.placed in
    let user = c.args.from.now in
    let lawful = subst (λ (us : List (List Table)). IsLawful (files_from 0 us)) (sym c.in_ok-levels.ensures) (c.last-last.ensures.sound h).lawful in
    let shown = scan_of user (level_in tables 0) (files_from 0 tables) ls s lawful runs in
    subst (IsScan s (at_or_past user (all_entries (files_from 0 c.args.version.now.tables)))) (sym left)
    (subst (λ (us : List (List Table)). IsScan s (at_or_past user (all_entries (files_from 0 us))) (pairs_of s None (entries_of (merge_all ls)))) c.in_ok-levels.ensures shown)
