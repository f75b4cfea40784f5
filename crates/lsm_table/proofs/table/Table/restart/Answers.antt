use Rattle.std.proofs.Common.{◌∙◌}
use Rattle.lsm_table.proofs.HeldTableLaws.{names_all}
use Rattle.lsm_table.proofs.table.Table.restart.Goals as goal

pub returns-clause-left : goal.returns-clause-left
returns-clause-left c = c.begin_again.ensures.left ∙ names_all c.parts-index.result.0.now c.parts-index.result.1.entries c.args.self.now c.parts-index.ensures
