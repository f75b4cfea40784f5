use Rattle.std.proofs.Common.{◌∙◌}
use Rattle.std.proofs.lemmas.Result.{err_from_is_err_and}
use Rattle.lsm_log_files.proofs.LogLaws.{read_more, stops_at}
use Rattle.lsm_log_files.proofs.ReadLaws.{reads_then}
use Rattle.lsm_log_files.proofs.reading.read_logs.Goals as goal

pub returns-in_err-rest-clause-refused : goal.returns-in_err-rest-clause-refused
returns-in_err-rest-clause-refused g c =
    let p = err_from_is_err_and c.from_residual.result c.from_residual.ensures.1 in
    rw (p.1, p.2) (stops_at c.args.numbers.now c.loop-number.number-index c.loop-number.logs
    c.loop-number.rest c.in_err-rest.field-0.0 (g.C.FolderCalls.calls c.args.folder.now)
    (g.C.FolderCalls.calls c.loop-number.folder) (g.C.FolderCalls.calls c.read_next.new.folder)
    c.loop-number-test.true c.loop-number.invariant.read c.in_err-rest.ensures.refused)

pub returns-in_err-rest-clause-reads : goal.returns-in_err-rest-clause-reads
returns-in_err-rest-clause-reads g c =
    reads_then _ _ _ c.loop-number.invariant.reads c.in_err-rest.ensures.reads

pub loop-number-preserved : goal.loop-number-preserved
loop-number-preserved g c = record {
  read =
      read_more c.args.numbers.now c.loop-number.number-index c.loop-number.logs
      c.read_next.new.logs c.loop-number.rest c.in_ok-rest.rest
      (g.C.FolderCalls.calls c.args.folder.now)
      (g.C.FolderCalls.calls c.loop-number.folder) (g.C.FolderCalls.calls c.read_next.new.folder)
      c.loop-number-test.true c.loop-number.invariant.read c.in_ok-rest.ensures.read;
  reads = reads_then _ _ _ c.loop-number.invariant.reads c.read_next.ensures.reads;
  place = c.read_next.ensures.place ∙ c.loop-number.invariant.place;
}
