use Rattle.std.proofs.Common.{inl, inr}
use Rattle.std.proofs.lemmas.Result.{err_from_is_err_and}
use Rattle.lsm_directory.proofs.CallerLemmas.{keeps_same}
use Rattle.lsm_cmd_recover.proofs.program.recover_before.Goals as goal

pub returns-in_err-folder-clause-refused : goal.returns-in_err-folder-clause-refused
returns-in_err-folder-clause-refused g c =
    let p = err_from_is_err_and c.from_residual.result c.from_residual.ensures.1 in
    rw (p.1, p.2) (inl (rw c.seeing_logs-options.ensures at c.in_err-folder.ensures.refused))

pub returns-in-Begin-clause-done : goal.returns-in-Begin-clause-done
returns-in-Begin-clause-done g c = inl (
  record {
    number = c.in-Begin.field-0;
    files = c.in_ok-folder.prepared.logs.items;
    folder = c.in_ok-folder.folder;
    ready = rw (c.seeing_logs-options.ensures, c.in-Begin.is) at c.in_ok-folder.ensures.ready;
  },
  keeps_same (g.E.Write.contents c.args.err.now),
)

pub returns-clause-done : goal.returns-clause-done
returns-clause-done g c = inr (
  c.in-Ok.brought,
  record {
    start = c.in_ok-folder.prepared.start;
    files = c.in_ok-folder.prepared.logs.items;
    folder = c.in_ok-folder.folder;
    left = c.recover_to.new.folder;
    ready = rw c.seeing_logs-options.ensures at c.in_ok-folder.ensures.ready;
    recovered = rw c.deref.ensures.value at c.in-Ok.ensures.done;
  },
  c.tell_left_out.ensures.begun,
)
