use Rattle.std.proofs.Common.{◌≡◌, ◌^◌, ◌<◌, ◌≤◌, length, Err, ap, subst, arith}
use Rattle.std.proofs.lemmas.Result.{err_from_is_err_and}
use Rattle.lsm_block.specs.declared.build_fault.BuildFault.{BuildFault}
use Rattle.lsm_block.specs.declared.build_fault.BuildFault.TheVariants.{TooLarge}
use Rattle.lsm_table.specs.Table.{IsTable}
use Rattle.lsm_table.specs.TableBuilding.{index_block, groups_by, table_bytes}
use Rattle.lsm_table.specs.TableMaking.{Making, entries_made}
use Rattle.lsm_table.proofs.SettleLaws.{closing_ascends}
use Rattle.lsm_table.proofs.StepLaws.{end_large, end_bytes, end_small, end_table}
use Rattle.lsm_table.proofs.builder.TableBuilder.finish.Goals as goal

pub close-requires : goal.close-requires
close-requires c =
    let i = c.self.inside in
    closing_ascends i.options (entries_made i.front.items i.index.entries i.taken.entries) i.front.items i.taken i.index c.self.invariant

pub returns-in_err-close-clause-large : goal.returns-in_err-close-clause-large
returns-in_err-close-clause-large c is =
    let i = c.self.inside in
    let es = entries_made i.front.items i.index.entries i.taken.entries in
    let p = err_from_is_err_and c.from_residual.result c.from_residual.ensures.1 in
    let same : c.in_err-close.field-0.0 ≡ TooLarge = cc (p.1, p.2, is) in
    subst (λ (x : Making). 2 ^ 32 ≤ length (index_block x.options.restart_interval (groups_by x.options x.entries))) c.self.view_is
    (end_large i.options es i.front.items i.taken i.index c.self.invariant (c.in_err-close.ensures.large (ap (λ (x : BuildFault). Err x) same)))

pub returns-clause-bytes : goal.returns-clause-bytes
returns-clause-bytes c =
    let i = c.self.inside in
    let es = entries_made i.front.items i.index.entries i.taken.entries in
    subst (λ (x : Making). c.in_ok-end.field-0.items ≡ table_bytes x.options x.entries) c.self.view_is
    (end_bytes i.options es i.front.items c.close.new.front.items c.in_ok-end.field-0.items i.taken i.index c.close.new.index c.self.invariant c.in_ok-close.ensures.ok c.in_ok-close.ensures.indexed c.in_ok-end.ensures.bytes)

pub returns-clause-table : goal.returns-clause-table
returns-clause-table c =
    let i = c.self.inside in
    let es = entries_made i.front.items i.index.entries i.taken.entries in
    let file = c.in_ok-end.field-0 in
    subst (λ (x : Making). IsTable file.items x.entries) c.self.view_is
    (end_table i.options es i.front.items c.close.new.front.items file.items i.taken i.index c.close.new.index c.self.invariant c.in_ok-close.ensures.ok c.in_ok-close.ensures.indexed c.in_ok-end.ensures.bytes
    c.in_ok-close.ensures.block c.in_ok-end.ensures.block (omega (arith, file.small, file.ok.0, file.ok.1)))

pub returns-clause-fits : goal.returns-clause-fits
returns-clause-fits c =
    let i = c.self.inside in
    let es = entries_made i.front.items i.index.entries i.taken.entries in
    subst (λ (x : Making). length (index_block x.options.restart_interval (groups_by x.options x.entries)) < 2 ^ 32) c.self.view_is
    (end_small i.options es i.front.items i.taken i.index c.close.new.index c.self.invariant c.in_ok-close.ensures.indexed c.in_ok-close.ensures.fits)
