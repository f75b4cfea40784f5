use Rattle.std.proofs.Common.{inl, inr, refl}
use Rattle.std.proofs.lemmas.Result.{err_from_is_err_and}
use Rattle.lsm_directory.proofs.CallerLemmas.{keeps_same}
use Rattle.lsm_cmd_repair.proofs.program.repair_at.Goals as goal

pub returns-in_err-folder-clause-refused : goal.returns-in_err-folder-clause-refused
returns-in_err-folder-clause-refused g c =
    let p = err_from_is_err_and c.from_residual.result c.from_residual.ensures.1 in
    rw (p.1, p.2) (inl (
      keeps_same (g.O.Write.contents c.args.out.now),
      inl c.in_err-folder.ensures.refused,
    ))

pub returns-in-Err-clause-refused : goal.returns-in-Err-clause-refused
returns-in-Err-clause-refused g c = inl (
  keeps_same (g.O.Write.contents c.args.out.now),
  inr (
    c.in-Err.fault,
    refl,
    inr record {
      folder = c.in_ok-folder.folder;
      last = c.repair_on.new.folder;
      opened = c.in_ok-folder.ensures.opened;
      refused = c.in-Err.ensures.refused;
    },
  ),
)

pub returns-clause-refused : goal.returns-clause-refused
returns-clause-refused g c = inr (
  refl,
  (
    c.in-Ok.repaired.tables,
    c.in-Ok.repaired.entries,
    c.in-Ok.repaired.left.items,
    c.in-Ok.repaired.unsure.items,
    record {
      folder = c.in_ok-folder.folder;
      last = c.repair_on.new.folder;
      opened = c.in_ok-folder.ensures.opened;
      repaired = c.in-Ok.ensures.done;
    },
  ),
)

pub returns-in-Ok-tell-clause-done : goal.returns-in-Ok-tell-clause-done
returns-in-Ok-tell-clause-done g c =
    let r = c.in-Ok.repaired in (
      r.tables,
      r.entries,
      r.left.items,
      r.unsure.items,
      record {
        folder = c.in_ok-folder.folder;
        last = c.repair_on.new.folder;
        opened = c.in_ok-folder.ensures.opened;
        repaired = c.in-Ok.ensures.done;
      },
      c.in-Ok-tell.ensures.lines,
      c.in-Ok-tell.ensures.notes,
    )
