use Rattle.std.proofs.Common.{◌≡◌, Err, ap, ◌∙◌, arith}
use Rattle.std.proofs.lemmas.Result.{err_from_is_err_and}
use Rattle.lsm_block.specs.Building.{Building}
use Rattle.lsm_block.specs.declared.build_fault.BuildFault.{BuildFault}
use Rattle.lsm_block.specs.declared.build_fault.BuildFault.TheVariants.{TooLarge}
use Rattle.lsm_table.specs.TableBuilding.{is_full}
use Rattle.lsm_table.proofs.MakingLaws.{none_full}
use Rattle.lsm_table.proofs.SettleLaws.{full_is, closing_ascends, closing_room, closing_made}
use Rattle.lsm_table.proofs.builder.settle.Goals as goal

pub close-requires : goal.close-requires
close-requires c = closing_ascends c.args.options c.requires.0 c.args.front.now.items c.args.taken.now c.args.index.now c.requires.1

pub returns-clause-ok : goal.returns-clause-ok
returns-clause-ok c entries m =
    let full = full_is c.args.options entries c.args.front.now.items c.args.taken.now c.args.index.now c.size_estimate.result m c.size_estimate.ensures c.if-size_estimate-options.false in
    let after = c.close.new.front in
    closing_made c.args.options entries c.args.front.now.items c.args.taken.now c.args.index.now m full c.in_ok-close.ensures.block after.items c.close.new.taken c.close.new.index c.in_ok-close.ensures.ok
    (omega (arith, after.small, after.ok.0, after.ok.1)) c.in_ok-close.ensures.cleared c.in_ok-close.ensures.indexed

pub returns-clause-not_full : goal.returns-clause-not_full
returns-clause-not_full c =
    ap (λ (b : Building). is_full c.args.options b.entries) c.in_ok-close.ensures.cleared ∙ none_full c.args.options c.requires.1.in_range

pub returns-in_err-close-clause-memory : goal.returns-in_err-close-clause-memory
returns-in_err-close-clause-memory c is =
    let m = c.requires.1 in
    let full = full_is c.args.options c.requires.0 c.args.front.now.items c.args.taken.now c.args.index.now c.size_estimate.result m c.size_estimate.ensures c.if-size_estimate-options.false in
    let p = err_from_is_err_and c.from_residual.result c.from_residual.ensures.1 in
    let same : c.in_err-close.field-0.0 ≡ TooLarge = cc (p.1, p.2, is) in
    absurd (omega (arith, closing_room c.args.options c.requires.0 c.args.front.now.items c.args.taken.now c.args.index.now m full, c.in_err-close.ensures.large (ap (λ (x : BuildFault). Err x) same)))
