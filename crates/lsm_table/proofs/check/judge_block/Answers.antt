use Rattle.std.proofs.Common.{Bool, ap, ◌∙◌}
use Rattle.std.proofs.lemmas.Result.{err_from_is_err_and}
use Rattle.std.specs.Option.{option_map}
use Rattle.lsm_codec.specs.KeyRef.{key_of}
use Rattle.lsm_block.specs.Block.{entry_of}
use Rattle.lsm_table.specs.declared.table_fault.TableFault.TheVariants.{BadIndex}
use Rattle.lsm_table.specs.Reading.{guarded, settled}
use Rattle.lsm_table.proofs.OpenLaws.{entries_read, judged_as, judged_not}
use Rattle.lsm_table.proofs.check.judge_block.Goals as goal

pub returns-in_err-block : goal.returns-in_err-block
returns-in_err-block c =
    let p = err_from_is_err_and c.from_residual.result c.from_residual.ensures.1 in
    rw (p.1, p.2) (judged_not c.in_err-block.field-0.0 c.args.body.now (option_map key_of c.args.bound) (entry_of (key_of c.args.key.now) c.args.spelled.now) c.in_err-block.ensures.exact)

pub returns-then-not-branch : goal.returns-then-not-branch
returns-then-not-branch c =
    judged_as c.args.body.now (option_map key_of c.args.bound) (entry_of (key_of c.args.key.now) c.args.spelled.now) c.in_ok-block.block.entries c.in_ok-is_placed.field-0 c.in_ok-block.ensures.exact (c.in_ok-is_placed.ensures c.args.spelled.now)
    ∙ ap (λ (b : Bool). settled (guarded b BadIndex (entries_read c.in_ok-block.block.entries))) c.if-not-branch.true

pub returns : goal.returns
returns c =
    judged_as c.args.body.now (option_map key_of c.args.bound) (entry_of (key_of c.args.key.now) c.args.spelled.now) c.in_ok-block.block.entries c.in_ok-is_placed.field-0 c.in_ok-block.ensures.exact (c.in_ok-is_placed.ensures c.args.spelled.now)
    ∙ ap (λ (b : Bool). settled (guarded b BadIndex (entries_read c.in_ok-block.block.entries))) c.if-not-branch.false
