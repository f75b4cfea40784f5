use Rattle.std.proofs.Common.{inl, inr, length, refl}
use Rattle.std.proofs.lemmas.Result.{err_from_is_err_and}
use Rattle.lsm_preview.proofs.LooksLaws.{looks_then, reading_looks}
use Rattle.lsm_preview.proofs.previewing.preview_named.Goals as goal

pub returns-clause-done : goal.returns-clause-done
returns-clause-done g c =
    let read = c.in-Ok.read in
    record {
      shape = read.shape;
      batches = read.logs;
      count = length read.numbers.items;
      mid = c.read_source.new.source;
      source = rw c.in_ok-seen.ensures.rest
          (rw c.looked_at.ensures at c.in-Ok.ensures.read);
      logs = read.numbers.items;
      those = rw c.looked_at.ensures at c.in-Ok.ensures.logs;
      view = c.in_ok-seen.ensures.view;
    }

pub returns-clause-looks : goal.returns-clause-looks
returns-clause-looks g c =
    looks_then c.args.shelf.now c.read_source.new.source c.view_of.new.shelf
    (reading_looks c.args.shelf.now c.read_source.new.source c.in-Ok.ensures.left)
    c.in_ok-seen.ensures.looks

pub returns-in_err-seen-clause-looks : goal.returns-in_err-seen-clause-looks
returns-in_err-seen-clause-looks g c =
    looks_then c.args.shelf.now c.read_source.new.source c.view_of.new.shelf
    (reading_looks c.args.shelf.now c.read_source.new.source c.in-Ok.ensures.left)
    c.in_err-seen.ensures.looks

pub returns-in-Err-clause-looks : goal.returns-in-Err-clause-looks
returns-in-Err-clause-looks g c =
    reading_looks c.args.shelf.now c.read_source.new.source c.in-Err.ensures.left

pub returns-in-Err-clause-refused : goal.returns-in-Err-clause-refused
returns-in-Err-clause-refused g c =
    inl (c.in-Err.fault, refl, rw c.looked_at.ensures at c.in-Err.ensures.refused)

pub returns-in_err-seen-clause-refused : goal.returns-in_err-seen-clause-refused
returns-in_err-seen-clause-refused g c =
    let p = err_from_is_err_and c.from_residual.result c.from_residual.ensures.1 in
    let read = c.in-Ok.read in
    rw (p.1, p.2) (inr (
      read.shape,
      read.logs,
      length read.numbers.items,
      read.rest,
      c.read_source.new.source,
      read.numbers.items,
      rw c.looked_at.ensures at c.in-Ok.ensures.read,
      rw c.looked_at.ensures at c.in-Ok.ensures.logs,
      c.in_err-seen.ensures.refused,
    ))
