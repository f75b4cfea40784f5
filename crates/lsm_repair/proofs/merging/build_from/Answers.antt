use Rattle.std.proofs.Common.{◌≤◌, ◌^◌, ◌∙◌, ◌∷◌, ap, length, subst}
use Rattle.std.specs.Prelude.{Err}
use Rattle.std.proofs.lemmas.Result.{err_from_is_err_and}
use Rattle.lsm_table.specs.TableBuilding.{groups_by, index_block}
use Rattle.lsm_table.specs.TableMaking.{Making}
use Rattle.lsm_table.specs.declared.table_options.TableOptions.{TableOptions}
use Rattle.lsm_repair.proofs.MergeLaws.{unbegun, unfinished}
use Rattle.lsm_repair.proofs.merging.build_from.Goals as goal

pub returns-in-Ok-clause-merged : goal.returns-in-Ok-clause-merged
returns-in-Ok-clause-merged c = record {
  made = c.add_all.new.table.entries;
  union = c.in_ok-totals.ensures.built.union;
  counted = c.in_ok-totals.ensures.built.counted;
  table = c.in-Ok.ensures.image;
}

pub returns-in_err-table-clause-refused : goal.returns-in_err-table-clause-refused
returns-in_err-table-clause-refused c =
    let p = err_from_is_err_and c.from_residual.result c.from_residual.ensures.1 in
    rw (p.1, p.2) (unbegun c.args.options c.args.one.now c.args.others.now _
    c.in_err-table.ensures.refused)

pub returns-in-Err-clause-refused : goal.returns-in-Err-clause-refused
returns-in-Err-clause-refused c =
    let made = c.add_all.new.table.entries in
    unfinished c.args.options (c.args.one.now ∷ c.args.others.now) made c.in_ok-totals.totals.last
    c.in-Err.fault c.of_build.result c.in_ok-totals.ensures.built.union c.of_build.ensures.large
    c.of_build.ensures.memory (λ same.
    subst (λ (o : TableOptions). 2 ^ 32
    ≤ length (index_block o.restart_interval (groups_by o made)))
    (c.in_ok-totals.ensures.options ∙ ap (λ (m : Making). m.options) c.in_ok-table.ensures.begun)
    (c.finish.ensures.large (c.in-Err.is ∙ ap Err same)))
