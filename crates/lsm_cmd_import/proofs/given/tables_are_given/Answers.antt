use Rattle.std.proofs.Common.{All, List, subst, sym}
use Rattle.std.proofs.lemmas.List.{take_all}
use Rattle.std.proofs.lemmas.List.Elements.{All-map, All-more, All-same}
use Rattle.lsm_shelf.specs.Stored.{Stored}
use Rattle.lsm_table.specs.Registry.{Table}
use Rattle.lsm_cmd_import.proofs.given.tables_are_given.Goals as goal

pub loop-level-preserved : goal.loop-level-preserved
loop-level-preserved g c =
    let P : Table → Type 0 = λ t.
    Stored g.row.S-Receipt.Denot (g.S.Shelf.is_of g.N.Naming.place)
    g.S.Receipt.TableReceipt.number g.S.Receipt.TableReceipt.image t.number t.image in
    All-more (λ v. All P v.items) c.levels-levels.result.now c.loop-level.level-index
    c.level-item.result c.loop-level-test.true c.loop-level.invariant
    (subst (λ v. All P v.items) c.level-item.is (All-same P c.level-item.result.items _
    (sym c.as_slice.ensures.value) c.level_is_given.ensures))

pub returns : goal.returns
returns g c =
    let P : Table → Type 0 = λ t.
    Stored g.row.S-Receipt.Denot (g.S.Shelf.is_of g.N.Naming.place)
    g.S.Receipt.TableReceipt.number g.S.Receipt.TableReceipt.image t.number t.image in
    let levels = c.levels-levels.result.now in
    let whole =
    All-same (λ v. All P v.items) levels _ (sym
    (take_all c.loop-level.level-index levels c.loop-level-test.false)) c.loop-level.invariant
    in
    subst (λ (tables : List (List Table)). All (All P) tables) c.levels-levels.ensures.tables
    (All-map (All P) (λ v. v.items) levels whole)
