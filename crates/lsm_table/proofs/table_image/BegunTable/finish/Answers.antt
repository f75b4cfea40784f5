use Rattle.std.proofs.Common.{◌≡◌, Some, sym, subst}
use Rattle.lsm_codec.specs.KeyRef.{key_of}
use Rattle.lsm_block.specs.Building.{last_key}
use Rattle.lsm_table.specs.Table.{IsImage}
use Rattle.lsm_table.specs.TableMaking.{Making}
use Rattle.lsm_table.proofs.TableImageLaws.{image_of}
use Rattle.lsm_table.proofs.table_image.BegunTable.finish.Goals as goal

pub returns-clause-image : goal.returns-clause-image
returns-clause-image c =
    let last : last_key c.self.inside.builder.entries ≡ Some (key_of c.last_key.result) = subst (λ (m : Making). last_key m.entries ≡ Some (key_of c.last_key.result)) (sym c.self.view_is) c.last_key.ensures.key in
    subst (λ (m : Making). IsImage m.entries c.self.inside.smallest c.in_ok-largest.largest c.in_ok-bytes.bytes.items) c.self.view_is
    (image_of c.self.inside.builder.entries c.self.inside.smallest c.in_ok-largest.largest c.in_ok-bytes.bytes.items (key_of c.last_key.result) c.self.invariant last c.in_ok-largest.ensures c.in_ok-bytes.ensures.table)
