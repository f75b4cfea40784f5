use Rattle.std.proofs.Common.{inr}
use Rattle.std.proofs.lemmas.Result.{err_from_is_err_and}
use Rattle.lsm_import.proofs.CallerLemmas.{puts_then}
use Rattle.lsm_recovery.proofs.BringLaws.{reading_puts}
use Rattle.lsm_recovery.proofs.recovering.recover_named.Goals as goal

pub returns-in_err-entries-clause-refused : goal.returns-in_err-entries-clause-refused
returns-in_err-entries-clause-refused g c =
    let p = err_from_is_err_and c.from_residual.result c.from_residual.ensures.1 in
    let r = c.in-Ok.read in
    let s = r.source in
    rw (p.1, p.2) (record {
      why =
          inr (inr (
            s.shape,
            s.logs,
            r.count,
            s.rest,
            r.stop,
            c.read_source_to.new.source,
            c.in-Ok.ensures.read,
            c.in_err-entries.ensures.refused,
          ));
      puts =
          puts_then c.args.shelf.now c.read_source_to.new.source c.bring_in.new.shelf
          (reading_puts c.args.shelf.now c.read_source_to.new.source c.in-Ok.ensures.left)
          c.in_err-entries.ensures.none;
      reads = c.in-Ok.ensures.reads;
    })
