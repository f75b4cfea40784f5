use Rattle.lsm_directory.proofs.CallerLemmas.{shelf_over}
use Rattle.lsm_opening.specs.Preparing.{IsPrepared, plainly}
use Rattle.lsm_cmd_bench.proofs.RunLaws.{benches_at, fails_to_bench}
use Rattle.lsm_cmd_bench.proofs.program.bench_at.Goals as goal

pub returns-clause-done : goal.returns-clause-done
returns-clause-done g c =
    let start = c.in_ok-prepared.prepared.start in
    let logs = c.in_ok-prepared.prepared.logs.items in
    benches_at g.C.FolderCalls c.run_on-done.result.0 c.args.path.now c.args.options.now c.in_ok-number.number start logs c.over-shelf.result c.run_on-done.result.1 c.in_ok-number.ensures.begins
    c.in_ok-number.ensures.flushed
    (shelf_over g.C.FolderCalls c.args.path.now (IsPrepared plainly start logs) c.in_ok-folder.folder c.prepare.new.folder c.over-shelf.result c.in_ok-folder.ensures.place
    c.in_ok-folder.ensures.calls (rw c.plainly.ensures at c.in_ok-prepared.ensures.prepared) c.prepare.ensures.place c.over-shelf.ensures.folder c.over-shelf.ensures.fresh)
    c.run_on-done.ensures.done

pub returns-clause-refused : goal.returns-clause-refused
returns-clause-refused g c =
    let start = c.in_ok-prepared.prepared.start in
    let logs = c.in_ok-prepared.prepared.logs.items in
    fails_to_bench g.C.FolderCalls c.run_on-done.result.0 c.args.path.now c.args.options.now c.in_ok-number.number start logs c.over-shelf.result c.run_on-done.result.1 _ _ c.in_ok-number.ensures.begins
    c.in_ok-number.ensures.flushed
    (shelf_over g.C.FolderCalls c.args.path.now (IsPrepared plainly start logs) c.in_ok-folder.folder c.prepare.new.folder c.over-shelf.result c.in_ok-folder.ensures.place
    c.in_ok-folder.ensures.calls (rw c.plainly.ensures at c.in_ok-prepared.ensures.prepared) c.prepare.ensures.place c.over-shelf.ensures.folder c.over-shelf.ensures.fresh)
    c.run_on-done.ensures.fault
