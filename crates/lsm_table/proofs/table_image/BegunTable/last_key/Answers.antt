use Rattle.std.proofs.Common.{sym, ◌∙◌, ap}
use Rattle.std.specs.Option.{option_map}
use Rattle.lsm_codec.specs.KeyRef.{key_of}
use Rattle.lsm_table.proofs.TableImageLaws.{begun_has}
use Rattle.lsm_table.proofs.table_image.BegunTable.last_key.Goals as goal

pub unreachable-requires : goal.unreachable-requires
unreachable-requires c =
    begun_has c.self.inside.smallest c.self.inside.builder.entries c.self.invariant (sym c.last_key.ensures.key ∙ ap (option_map key_of) c.in-None.is)
