use Rattle.std.proofs.Common.{inl, inr, refl}
use Rattle.std.proofs.lemmas.Result.{err_from_is_err_and}
use Rattle.lsm_import.proofs.CallerLemmas.{puts_none}
use Rattle.lsm_cmd_import.proofs.RunLaws.{reads_later, source_later}
use Rattle.lsm_cmd_import.proofs.importing.import_named.Goals as goal

pub returns-in_err-read-clause-refused : goal.returns-in_err-read-clause-refused
returns-in_err-read-clause-refused g c =
    let p = err_from_is_err_and c.from_residual.result c.from_residual.ensures.1 in
    rw (p.1, p.2) (record {
      why = inr (inl (c.in_err-read.field-0.0, refl, c.in_err-read.ensures.refused));
      puts = puts_none c.args.target.now;
      left = record {
        folder = c.read_source_to.ensures.reads;
        shelf = c.read_source_to.ensures.left;
      };
    })

pub returns-in_err-tables-clause-refused : goal.returns-in_err-tables-clause-refused
returns-in_err-tables-clause-refused g c =
    let p = err_from_is_err_and c.from_residual-in_err-tables.result
    c.from_residual-in_err-tables.ensures.1 in
    let f = c.in_ok-read.field-0 in
    let s = f.source in
    rw (p.1, p.2) (record {
      why =
          inr (inr (
            s.shape,
            s.logs,
            f.count,
            s.rest,
            f.stop,
            source_later c.args.to_first_fault f.stop c.args.files.now s.shape s.logs f.count s.rest
                _ _ _ _ _ c.in_ok-read.ensures.read c.copy.ensures.read,
            c.in_err-tables.ensures.refused,
          ));
      puts = c.in_err-tables.ensures.none;
      left = record {
        folder = c.read_source_to.ensures.reads;
        shelf = reads_later _ _ _ c.read_source_to.ensures.left c.copy.ensures.read;
      };
    })

pub returns-clause-done : goal.returns-clause-done
returns-clause-done g c =
    let f = c.in_ok-read.field-0 in
    let s = f.source in
    record {
      shape = s.shape;
      batches = s.logs;
      source =
          source_later c.args.to_first_fault f.stop c.args.files.now s.shape s.logs f.count s.rest _
          _ _ _ _ c.in_ok-read.ensures.read c.copy.ensures.read;
      copy = c.in_ok-tables.ensures.made;
      left = record {
        folder = c.read_source_to.ensures.reads;
        shelf = reads_later _ _ _ c.read_source_to.ensures.left c.copy.ensures.read;
      };
    }
