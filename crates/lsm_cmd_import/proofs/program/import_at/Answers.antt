use Rattle.std.proofs.Common.{inl, inr, refl}
use Rattle.std.proofs.lemmas.Result.{err_from_is_err_and}
use Rattle.lsm_directory.proofs.CallerLemmas.{keeps_same}
use Rattle.lsm_cmd_import.proofs.program.import_at.Goals as goal

pub returns-in_err-folder-clause-refused : goal.returns-in_err-folder-clause-refused
returns-in_err-folder-clause-refused g c =
    let p = err_from_is_err_and c.from_residual.result c.from_residual.ensures.1 in
    rw (p.1, p.2) (inl (keeps_same (g.O.Write.contents c.args.out.now), inl c.in_err-folder.ensures.refused))

pub returns-in-Err-clause-refused : goal.returns-in-Err-clause-refused
returns-in-Err-clause-refused g c = inl (
  keeps_same (g.O.Write.contents c.args.out.now),
  inr record {
    files = c.in_ok-folder.files.items;
    folder = c.in_ok-folder.folder;
    source = c.in_ok-folder.source;
    target = c.in_ok-folder.target;
    ready = c.in_ok-folder.ensures.ready;
    left_folder = c.import-made.new.folder;
    left_source = c.import-made.result.1;
    left_target = c.import-made.result.2;
    refused = rw (c.in-Err.is, c.deref.ensures.value) at c.import-made.ensures.refused;
  },
)

pub returns-in-Ok-tell_made-clause-done : goal.returns-in-Ok-tell_made-clause-done
returns-in-Ok-tell_made-clause-done g c = (
  c.in-Ok.made,
  record {
    files = c.in_ok-folder.files.items;
    folder = c.in_ok-folder.folder;
    source = c.in_ok-folder.source;
    target = c.in_ok-folder.target;
    ready = c.in_ok-folder.ensures.ready;
    left_folder = c.import-made.new.folder;
    left_source = c.import-made.result.1;
    left_target = c.import-made.result.2;
    done = rw (c.in-Ok.is, c.deref.ensures.value) at c.import-made.ensures.done;
  },
  c.in-Ok-tell_made.ensures.left,
  c.in-Ok-tell_made.ensures.written,
)

pub returns-clause-refused : goal.returns-clause-refused
returns-clause-refused g c = inr (
  refl,
  (
    c.in-Ok.made,
    record {
      files = c.in_ok-folder.files.items;
      folder = c.in_ok-folder.folder;
      source = c.in_ok-folder.source;
      target = c.in_ok-folder.target;
      ready = c.in_ok-folder.ensures.ready;
      left_folder = c.import-made.new.folder;
      left_source = c.import-made.result.1;
      left_target = c.import-made.result.2;
      done = rw (c.in-Ok.is, c.deref.ensures.value) at c.import-made.ensures.done;
    },
  ),
)
