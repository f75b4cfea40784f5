use Rattle.std.proofs.Common.{ℕ, List, sym, subst}
use Rattle.lsm_codec.specs.Entries.{Entry}
use Rattle.lsm_table.specs.HeldTable.{Names}
use Rattle.lsm_table.specs.OpenTable.{IsOpened}
use Rattle.lsm_table.proofs.OpenLaws.{held_opened, read_names}
use Rattle.lsm_table.proofs.table.Table.parts.Goals as goal

pub parts-requires : goal.parts-requires
parts-requires c =
    let i = c.self.inside in
    subst (λ (xs : List ℕ). IsOpened xs i.index) (sym c.deref.ensures.value) (held_opened i.file.items i.index c.self.invariant)

pub returns : goal.returns
returns c =
    let i = c.self.inside in
    subst (λ (es : List Entry). Names c.parts.result.0.now c.parts.result.1.entries es) c.self.view_is
    (read_names i.file.items c.deref.result.now c.parts.result.0.now _ c.parts.result.1.entries c.self.invariant.table c.deref.ensures.value c.parts.ensures.body c.parts.ensures.index)
