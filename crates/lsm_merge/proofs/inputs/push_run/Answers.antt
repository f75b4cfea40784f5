use Rattle.lsm_merge.specs.Inputs.{entries_of_tables}
use Rattle.lsm_merge.proofs.InputLaws.{run_files, run_pushed, runs_ordered}
use Rattle.lsm_merge.specs.Causes.{NamesRefused}
use Rattle.lsm_merge.proofs.PlaceLaws.{err_is}
use Rattle.lsm_merge.proofs.inputs.push_run.Goals as goal

pub returns-clause-entries : goal.returns-clause-entries
returns-clause-entries g c = λ honest.
    run_pushed c.args.runs.now.items c.in_ok-run.run' _ c.args.tables.now c.push.new.self.items c.in_ok-push.ensures.items (c.in_ok-run.ensures.entries honest)

pub returns-clause-files : goal.returns-clause-files
returns-clause-files g c =
    run_files c.args.runs.now.items c.in_ok-run.run' _ c.args.tables.now c.push.new.self.items c.in_ok-push.ensures.items c.in_ok-run.ensures.files

pub returns-clause-ordered : goal.returns-clause-ordered
returns-clause-ordered g c = λ honest sorted.
    runs_ordered c.args.runs.now.items c.in_ok-run.run' _ (entries_of_tables c.args.tables.now) c.push.new.self.items c.in_ok-push.ensures.items (c.in_ok-run.ensures.entries honest) sorted

pub returns-in_err-run-clause-refused : goal.returns-in_err-run-clause-refused
returns-in_err-run-clause-refused g c = λ options.
    err_is (NamesRefused (g.S.Shelf.refuses g.N.Naming.place) options) c.from_residual.result c.in_err-run.field-0.0 c.from_residual.ensures.1 (c.in_err-run.ensures.refused options)
