use Rattle.std.proofs.Common.{◌≡◌, None, sym, ◌∙◌, subst, Result, arith}
use Rattle.std.proofs.lemmas.Result.{err_from_is_err_and}
use Rattle.lsm_table.specs.declared.table_fault.TableFault.{TableFault}
use Rattle.lsm_table.specs.Reading.{Fails, settled}
use Rattle.lsm_table.specs.TableReading.{data_at}
use Rattle.lsm_table.proofs.CheckLaws.{held_well, reads_well, fails_whole}
use Rattle.lsm_table.proofs.OpenLaws.{rest_of_table}
use Rattle.lsm_table.proofs.JudgeLaws.{well}
use Rattle.lsm_table.proofs.check.judge_rest.Goals as goal

pub returns-clause-held : goal.returns-clause-held
returns-clause-held c =
    let file = c.args.file.now in
    let read : settled (data_at c.parts-block.result.0.now 0 None c.parts-block.result.1.entries) ≡ well = c.in_ok-judge_data.ensures in
    let whole = sym (rest_of_table file c.parts-block.result.0.now c.parts-block.result.1.entries c.parts-block.ensures.body c.parts-block.ensures.index) ∙ read in
    held_well file c.args.index (λ i. omega (arith, c.type_inv.file i)) whole c.requires

pub returns-clause-exact : goal.returns-clause-exact
returns-clause-exact c =
    let file = c.args.file.now in
    let read : settled (data_at c.parts-block.result.0.now 0 None c.parts-block.result.1.entries) ≡ well = c.in_ok-judge_data.ensures in
    reads_well file (sym (rest_of_table file c.parts-block.result.0.now c.parts-block.result.1.entries c.parts-block.ensures.body c.parts-block.ensures.index) ∙ read)

pub returns-in_err-judge_data-clause-exact : goal.returns-in_err-judge_data-clause-exact
returns-in_err-judge_data-clause-exact c =
    let p = err_from_is_err_and c.from_residual.result c.from_residual.ensures.1 in
    rw (p.1, p.2) (let file = c.args.file.now in
    fails_whole c.in_err-judge_data.field-0.0 file
    (subst (λ (r : Result (Unit {0}) TableFault). Fails c.in_err-judge_data.field-0.0 r)
    (rest_of_table file c.parts-block.result.0.now c.parts-block.result.1.entries c.parts-block.ensures.body c.parts-block.ensures.index) c.in_err-judge_data.ensures))
