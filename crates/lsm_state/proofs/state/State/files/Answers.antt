use Rattle.std.proofs.Common.{◌≡◌, ◌+◌, ◌<◌, ◌++◌, length, drop, ◌∙◌, ap, sym, arith}
use Rattle.lsm_version.specs.Versions.{Levels, level_in}
use Rattle.lsm_state.specs.Held.{Held}
use Rattle.lsm_state.specs.Listing.{listed_at, listed_from}
use Rattle.lsm_state.proofs.Listed.{listed_more}
use Rattle.lsm_state.proofs.state.State.files.Goals as goal

pub loop-level-preserved : goal.loop-level-preserved
loop-level-preserved g c =
    let v : Levels = c.args.self.now.slots.version in
    let n = c.loop-level.level in
    let same : c.version-version.result.now ≡ v = c.version-version.ensures.version ∙ ap (λ (h : Held). h.slots.version) c.self.view_is in
    let tables : c.level-tables.result.now ≡ level_in v.tables n = c.level-tables.ensures ∙ (ap (λ (w : Levels). level_in w.tables c.from.result) same ∙ ap (level_in v.tables) c.from.ensures) in
    let seven : length v.tables ≡ 7 = ap (λ (w : Levels). length w.tables) (sym same) ∙ c.last-last.ensures.levels in
    let test = c.loop-level-test.true in
    let lt : n < length v.tables = omega arith in
    ap (λ l. l ++ listed_from (n + 1) (drop (n + 1) v.tables)) (c.in_ok-push_files.ensures ∙ ap (λ l. c.loop-level.files.items ++ listed_at n l) tables)
    ∙ listed_more v.tables n c.loop-level.files.items (listed_from 0 v.tables) lt c.loop-level.invariant
