use Rattle.std.proofs.Common.{sym, subst}
use Rattle.lsm_merge.specs.Causes.{NamesRefused}
use Rattle.lsm_merge.specs.Gathering.{IsOfOneOutput}
use Rattle.lsm_merge.proofs.GatherLaws.{one_build, one_reading}
use Rattle.lsm_merge.proofs.PlaceLaws.{err_is}
use Rattle.lsm_merge.proofs.gathering.begin_with.Goals as goal

pub returns-in_err-pass-clause-refused : goal.returns-in_err-pass-clause-refused
returns-in_err-pass-clause-refused g c =
    err_is (NamesRefused (g.S.Shelf.refuses g.N.Naming.place) c.args.sizes) c.from_residual.result c.in_err-pass.field-0.0 c.from_residual.ensures.1 (c.in_err-pass.ensures.refused c.args.sizes)

pub returns-in-Err-clause-numbers : goal.returns-in-Err-clause-numbers
returns-in-Err-clause-numbers g c = subst (IsOfOneOutput c.args.number) (sym c.of_build.ensures) (one_build c.args.number c.in-Err.fault)

pub returns-in_err-pass-clause-numbers : goal.returns-in_err-pass-clause-numbers
returns-in_err-pass-clause-numbers g c =
    err_is (IsOfOneOutput c.args.number) c.from_residual.result c.in_err-pass.field-0.0 c.from_residual.ensures.1 (one_reading c.args.number c.in_err-pass.field-0.0 c.in_err-pass.ensures.kind)
