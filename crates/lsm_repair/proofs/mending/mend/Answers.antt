use Rattle.std.proofs.Common.{inl, inr, refl}
use Rattle.std.proofs.lemmas.Result.{err_from_is_err_and}
use Rattle.lsm_shelf.specs.Stored.{Stored}
use Rattle.lsm_repair.proofs.MendLaws.{mended, puts_later, puts_none, same_then}
use Rattle.lsm_repair.proofs.mending.mend.Goals as goal

pub returns-clause-mended : goal.returns-clause-mended
returns-clause-mended g c =
    mended c.mended_is_sound.ensures.replayed c.mended_is_sound.ensures.sound
    (Stored g.row.S-Receipt.Denot (g.S.Shelf.is_of g.N.Naming.place)
    g.S.Receipt.TableReceipt.number g.S.Receipt.TableReceipt.image)
    (g.S.Shelf.refuses g.N.Naming.place) c.args.number c.in_ok-manifest.manifest.items
    c.in_ok-logs.logs c.in_ok-found.tables c.in_ok-merged.merged.count
    c.in_ok-found.found.left.items c.args.shelf.now c.read_old.new.shelf c.take_in.new.shelf
    c.name_table.new.shelf c.in_ok-found.found.entries.items c.in_ok-merged.merged.image
    c.in_ok-merged.merged.last c.in_ok-logs.ensures.old c.in_ok-found.ensures.taken
    c.in_ok-merged.ensures.merged c.in_ok-manifest.ensures.manifest
    c.in_ok-manifest.ensures.spelled c.in_ok-manifest.ensures.put c.in_ok-manifest.ensures.told

pub returns-clause-at_most : goal.returns-clause-at_most
returns-clause-at_most g c =
    puts_later c.args.number c.args.shelf.now c.take_in.new.shelf c.name_table.new.shelf
    (same_then c.args.shelf.now c.read_old.new.shelf c.take_in.new.shelf c.read_old.ensures.same
    c.take_in.ensures.same) c.name_table.ensures.at_most

pub returns-in_err-logs-clause-at_most : goal.returns-in_err-logs-clause-at_most
returns-in_err-logs-clause-at_most g c =
    puts_none c.args.number c.args.shelf.now c.read_old.new.shelf c.read_old.ensures.same

pub returns-in_err-found-clause-at_most : goal.returns-in_err-found-clause-at_most
returns-in_err-found-clause-at_most g c =
    puts_none c.args.number c.args.shelf.now c.take_in.new.shelf
    (same_then c.args.shelf.now c.read_old.new.shelf c.take_in.new.shelf c.read_old.ensures.same
    c.take_in.ensures.same)

pub returns-in_err-merged-clause-at_most : goal.returns-in_err-merged-clause-at_most
returns-in_err-merged-clause-at_most g c =
    puts_none c.args.number c.args.shelf.now c.take_in.new.shelf
    (same_then c.args.shelf.now c.read_old.new.shelf c.take_in.new.shelf c.read_old.ensures.same
    c.take_in.ensures.same)

pub returns-in_err-manifest-clause-at_most : goal.returns-in_err-manifest-clause-at_most
returns-in_err-manifest-clause-at_most g c =
    puts_later c.args.number c.args.shelf.now c.take_in.new.shelf c.name_table.new.shelf
    (same_then c.args.shelf.now c.read_old.new.shelf c.take_in.new.shelf c.read_old.ensures.same
    c.take_in.ensures.same) c.name_table.ensures.at_most

pub returns-in_err-logs-clause-refused : goal.returns-in_err-logs-clause-refused
returns-in_err-logs-clause-refused g c =
    let p = err_from_is_err_and c.from_residual.result c.from_residual.ensures.1 in
    rw (p.1, p.2) (inl c.in_err-logs.ensures.refused)

pub returns-in_err-found-clause-refused : goal.returns-in_err-found-clause-refused
returns-in_err-found-clause-refused g c =
    let p = err_from_is_err_and c.from_residual-in_err-found.result
    c.from_residual-in_err-found.ensures.1 in
    rw (p.1, p.2) (inr record {
      logs = c.in_ok-logs.logs;
      begun = c.read_old.new.shelf;
      old = c.in_ok-logs.ensures.old;
      why = inl c.in_err-found.ensures.refused;
    })

pub returns-in_err-merged-clause-refused : goal.returns-in_err-merged-clause-refused
returns-in_err-merged-clause-refused g c =
    let p = err_from_is_err_and c.from_residual-in_err-merged.result
    c.from_residual-in_err-merged.ensures.1 in
    rw (p.1, p.2) (inr record {
      logs = c.in_ok-logs.logs;
      begun = c.read_old.new.shelf;
      old = c.in_ok-logs.ensures.old;
      why = inr record {
        held = c.in_ok-found.found.entries.items;
        left = c.in_ok-found.found.left.items;
        whole = c.in_ok-found.tables;
        mid = c.take_in.new.shelf;
        taken = c.in_ok-found.ensures.taken;
        same_list = refl;
        why = inl (rw c.usual.ensures at c.in_err-merged.ensures.refused);
      };
    })

pub returns-in_err-manifest-clause-refused : goal.returns-in_err-manifest-clause-refused
returns-in_err-manifest-clause-refused g c =
    let p = err_from_is_err_and c.from_residual-in_err-manifest.result
    c.from_residual-in_err-manifest.ensures.1 in
    rw (p.1, p.2) (inr record {
      logs = c.in_ok-logs.logs;
      begun = c.read_old.new.shelf;
      old = c.in_ok-logs.ensures.old;
      why = inr record {
        held = c.in_ok-found.found.entries.items;
        left = c.in_ok-found.found.left.items;
        whole = c.in_ok-found.tables;
        mid = c.take_in.new.shelf;
        taken = c.in_ok-found.ensures.taken;
        same_list = c.name_table.ensures.same_list;
        why = inr (
          c.in_ok-merged.merged.last,
          c.in_ok-merged.merged.count,
          c.in_ok-merged.merged.image,
          c.in_ok-merged.ensures.merged,
          c.in_err-manifest.ensures.refused,
        );
      };
    })
