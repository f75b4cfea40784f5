use Rattle.std.proofs.Common.{inl, inr}
use Rattle.std.proofs.lemmas.Result.{err_from_is_err_and}
use Rattle.lsm_directory.proofs.CallerLemmas.{keeps_same}
use Rattle.lsm_cmd_recover.proofs.program.recover_at.Goals as goal

pub returns-in_err-folder-clause-refused : goal.returns-in_err-folder-clause-refused
returns-in_err-folder-clause-refused g c =
    let p = err_from_is_err_and c.from_residual.result c.from_residual.ensures.1 in
    rw (p.1, p.2) (
      keeps_same (g.O.Write.contents c.args.out.now),
      inl (rw c.plainly.ensures at c.in_err-folder.ensures.refused),
    )

pub returns-in-Err-clause-refused : goal.returns-in-Err-clause-refused
returns-in-Err-clause-refused g c = (
  keeps_same (g.O.Write.contents c.args.out.now),
  inr record {
    start = c.in_ok-folder.prepared.start;
    files = c.in_ok-folder.prepared.logs.items;
    folder = c.in_ok-folder.folder;
    left = c.recover_to.new.folder;
    ready = rw c.plainly.ensures at c.in_ok-folder.ensures.ready;
    refused = rw c.deref.ensures.value at c.in-Err.ensures.refused;
  },
)

pub returns-clause-refused : goal.returns-clause-refused
returns-clause-refused g c = (
  c.in-Ok.brought,
  record {
    start = c.in_ok-folder.prepared.start;
    files = c.in_ok-folder.prepared.logs.items;
    folder = c.in_ok-folder.folder;
    left = c.recover_to.new.folder;
    ready = rw c.plainly.ensures at c.in_ok-folder.ensures.ready;
    recovered = rw c.deref.ensures.value at c.in-Ok.ensures.done;
  },
)
