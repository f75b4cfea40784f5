use Rattle.std.proofs.Common.{◌≡◌, ◌<◌, ◌∙◌, List, ap, sym, length, get_or, subst}
use Rattle.lsm_table.specs.Registry.{Table}
use Rattle.lsm_version.specs.Overlap.{meets}
use Rattle.lsm_version.specs.Versions.{level_in}
use Rattle.lsm_picker.proofs.FirstLaws.{first_let}
use Rattle.lsm_picker.proofs.manual.first_over.Goals as goal

pub returns-then-meets : goal.returns-then-meets
returns-then-meets g c =
    let v = c.args.version.now in
    let ts = level_in v.tables c.args.level in
    let i = c.loop-table.table-index in
    let x = c.table-item.result in
    let same = c.level-table-items.ensures ∙ ap (level_in v.tables) c.from.ensures in
    let lt : i < length ts = subst (λ (us : List Table). i < length us) same c.loop-table-test.true in
    let is : x ≡ get_or ts i x = subst (λ (us : List Table). x ≡ get_or us i x) same c.table-item.is in
    first_let (meets c.args.from.now c.args.to.now) ts i x lt is (sym c.meets.ensures ∙ c.if-meets.true) c.loop-table.invariant
