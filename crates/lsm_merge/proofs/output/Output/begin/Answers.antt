use Rattle.std.proofs.Common.{◌≡◌, [], ◌∷◌, ap}
use Rattle.std.specs.Prelude.{Err}
use Rattle.lsm_codec.specs.KeyRef.{key_of}
use Rattle.lsm_block.specs.Block.{entry_of}
use Rattle.lsm_block.specs.declared.build_fault.BuildFault.{BuildFault}
use Rattle.lsm_block.specs.declared.build_fault.BuildFault.TheVariants.{TooLarge}
use Rattle.lsm_merge.specs.Limits.{IsOverLimit}
use Rattle.lsm_merge.proofs.Limited.{over_first}
use Rattle.lsm_merge.proofs.PlaceLaws.{err_is}
use Rattle.lsm_merge.proofs.output.Output.begin.Goals as goal

pub returns-in_err-table-clause-large : goal.returns-in_err-table-clause-large
returns-in_err-table-clause-large c =
    err_is (λ (e : BuildFault). e ≡ TooLarge → IsOverLimit c.args.options (entry_of (key_of c.args.key.now) c.args.value.now ∷ [])) c.from_residual.result c.in_err-table.field-0.0 c.from_residual.ensures.1
    (λ is. over_first c.args.options (entry_of (key_of c.args.key.now) c.args.value.now) (c.in_err-table.ensures.large (ap Err is)))
