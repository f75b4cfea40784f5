use Rattle.std.proofs.Common.{◌+◌, ◌-◌, ◌∙◌, arith, inl, length}
use Rattle.std.proofs.lemmas.Result.{err_from_is_err_and}
use Rattle.lsm_log_files.proofs.LogLaws.{read_more, stops_at}
use Rattle.lsm_log_files.proofs.ReadLaws.{reads_then}
use Rattle.lsm_log_files.proofs.StopLaws.{read_to, with_sum}
use Rattle.lsm_log_files.proofs.stopping.read_fronts.Goals as goal

pub returns-in_err-left-clause-refused : goal.returns-in_err-left-clause-refused
returns-in_err-left-clause-refused g c =
    let p = err_from_is_err_and c.from_residual.result c.from_residual.ensures.1 in
    rw (p.1, p.2) (stops_at c.args.numbers.now c.loop-number.number-index c.loop-number.logs
    c.loop-number.rest c.in_err-left.field-0.0 (g.C.FolderCalls.calls c.args.folder.now)
    (g.C.FolderCalls.calls c.loop-number.folder) (g.C.FolderCalls.calls c.read_front.new.folder)
    c.loop-number-test.true c.loop-number.invariant.read (inl c.in_err-left.ensures.refused))

pub returns-in_err-left-clause-reads : goal.returns-in_err-left-clause-reads
returns-in_err-left-clause-reads g c =
    reads_then _ _ _ c.loop-number.invariant.reads c.read_front.ensures.reads

pub returns-in_err-rest-in-None-clause-refused : goal.returns-in_err-rest-in-None-clause-refused
returns-in_err-rest-in-None-clause-refused g c =
    let p = err_from_is_err_and c.from_residual-in_err-rest-in-None.result
    c.from_residual-in_err-rest-in-None.ensures.1 in
    rw p.1 (stops_at c.args.numbers.now c.loop-number.number-index c.loop-number.logs
    c.loop-number.rest p.0 (g.C.FolderCalls.calls c.args.folder.now)
    (g.C.FolderCalls.calls c.loop-number.folder) (g.C.FolderCalls.calls c.read_front.new.folder)
    c.loop-number-test.true c.loop-number.invariant.read (inl (inl p.2)))

pub returns-in_err-rest-in-None-clause-reads : goal.returns-in_err-rest-in-None-clause-reads
returns-in_err-rest-in-None-clause-reads g c =
    reads_then _ _ _ c.loop-number.invariant.reads c.read_front.ensures.reads

pub returns-in-Some-clause-whole : goal.returns-in-Some-clause-whole
returns-in-Some-clause-whole g c =
    let counted = c.loop-number.invariant.counted in
    let lt = c.loop-number-test.true in
    let count = c.loop-number.count + 1 in
    read_to c.args.numbers.now c.loop-number.number-index c.loop-number.logs c.read_front.new.logs
    c.loop-number.rest count (length c.args.numbers.now - count) c.in_ok-left.left.bytes
    c.in-Some.fault (g.C.FolderCalls.calls c.args.folder.now)
    (g.C.FolderCalls.calls c.loop-number.folder) (g.C.FolderCalls.calls c.read_front.new.folder) lt
    c.loop-number.invariant.read (rw c.in-Some.is at c.in_ok-left.ensures.read)
    (omega (arith, counted)) (omega (arith, counted, lt))

pub returns-in-Some-clause-reads : goal.returns-in-Some-clause-reads
returns-in-Some-clause-reads g c =
    reads_then _ _ _ c.loop-number.invariant.reads c.read_front.ensures.reads

pub loop-number-preserved : goal.loop-number-preserved
loop-number-preserved g c =
    let counted = c.loop-number.invariant.counted in
    let next = with_sum _ c.loop-number.logs c.read_front.new.logs c.loop-number.rest
    c.in_ok-left.left.bytes c.in_ok-rest-in-None.rest
    (g.C.FolderCalls.calls c.loop-number.folder) (g.C.FolderCalls.calls c.read_front.new.folder)
    (rw c.in-None.is at c.in_ok-left.ensures.read) c.in_ok-rest-in-None.ensures in
    record {
      read =
          read_more c.args.numbers.now c.loop-number.number-index c.loop-number.logs
          c.read_front.new.logs c.loop-number.rest c.in_ok-rest-in-None.rest
          (g.C.FolderCalls.calls c.args.folder.now) (g.C.FolderCalls.calls c.loop-number.folder)
          (g.C.FolderCalls.calls c.read_front.new.folder) c.loop-number-test.true
          c.loop-number.invariant.read next;
      counted = omega (arith, counted);
      within = omega (arith, c.loop-number-test.true);
      reads = reads_then _ _ _ c.loop-number.invariant.reads c.read_front.ensures.reads;
      place = c.read_front.ensures.place ∙ c.loop-number.invariant.place;
    }
