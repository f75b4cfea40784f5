use Rattle.lsm_cmd_write.proofs.SpareFiles.{spare_by}
use Rattle.lsm_cmd_write.proofs.cleaning.kept.Kept.spares.Goals as goal

pub returns : goal.returns
returns c =
    spare_by c.spares_kind.result c.args.self.now.journal c.args.self.now.tables.items c.args.name.now c.of.result c.of.ensures.known c.of.ensures.other c.spares_kind.ensures
