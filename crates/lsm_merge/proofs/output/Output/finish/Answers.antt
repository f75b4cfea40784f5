use Rattle.std.proofs.Common.{◌≡◌, subst}
use Rattle.std.specs.Prelude.{IfErr, IfOk}
use Rattle.lsm_block.specs.declared.build_fault.BuildFault.{BuildFault}
use Rattle.lsm_block.specs.declared.build_fault.BuildFault.TheVariants.{TooLarge}
use Rattle.lsm_table.specs.Table.{IsImage}
use Rattle.lsm_table.specs.TableBuilding.{table_bytes}
use Rattle.lsm_table.specs.TableImage.{Imaged}
use Rattle.lsm_merge.specs.Limits.{IsOverLimit}
use Rattle.lsm_merge.specs.Outputs.{Unfinished}
use Rattle.lsm_merge.proofs.Limited.{over_whole}
use Rattle.lsm_merge.proofs.output.Output.finish.Goals as goal

pub returns-clause-bytes : goal.returns-clause-bytes
returns-clause-bytes c = subst (λ (o : Unfinished). IfOk c.finish.result (λ (i : Imaged). i.bytes ≡ table_bytes o.options o.entries)) c.self.view_is c.finish.ensures.bytes

pub returns-clause-image : goal.returns-clause-image
returns-clause-image c = subst (λ (o : Unfinished). IfOk c.finish.result (λ (i : Imaged). IsImage o.entries i.smallest i.largest i.bytes)) c.self.view_is c.finish.ensures.image

pub returns-clause-large : goal.returns-clause-large
returns-clause-large c =
    subst (λ (o : Unfinished). IfErr c.finish.result (λ (e : BuildFault). e ≡ TooLarge → IsOverLimit o.options o.entries)) c.self.view_is
    (over_whole c.self.inside.table.options c.self.inside.table.entries c.finish.result c.last_key-last.ensures.ascends c.finish.ensures.large)
