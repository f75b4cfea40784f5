use Rattle.lsm_merge.specs.Causes.{NamesRefused}
use Rattle.lsm_merge.proofs.PlaceLaws.{err_is}
use Rattle.lsm_merge.proofs.inputs.open_stream.Goals as goal

pub returns-in_err-merger-clause-refused : goal.returns-in_err-merger-clause-refused
returns-in_err-merger-clause-refused g c = λ options.
    err_is (NamesRefused (g.S.Shelf.refuses g.N.Naming.place) options) c.from_residual.result c.in_err-merger.field-0.0 c.from_residual.ensures.1 (c.in_err-merger.ensures.refused options)
