use Rattle.std.proofs.Common.{inl}
use Rattle.std.proofs.lemmas.Result.{err_from_is_err_and}
use Rattle.lsm_shelf.specs.Stored.{Stored}
use Rattle.lsm_import.proofs.CallerLemmas.{puts_then, writes_came}
use Rattle.lsm_recovery.proofs.bringing.finish.Goals as goal

pub returns-in-Ok-clause-brought : goal.returns-in-Ok-clause-brought
returns-in-Ok-clause-brought g c =
    let Into = Stored g.row.S-Receipt.Denot (g.S.Shelf.is_of g.N.Naming.place) g.S.Receipt.TableReceipt.number g.S.Receipt.TableReceipt.image in
    let filled = c.in_ok-whole.ensures.filled in
    let begun = c.in-Ok.ensures.begun in
    record {
      whole = c.in_ok-whole.whole;
      filled = filled;
      counted = writes_came Into c.args.logs c.args.standing c.in_ok-whole.whole c.requires.none filled.logs;
      begun = record {
        mid = begun.mid;
        puts = puts_then c.args.shelf.now c.fill.new.shelf begun.mid c.fill.ensures.puts begun.puts;
        begun = begun.begun;
        manifest = begun.manifest;
      };
    }

pub returns-in_err-whole-clause-refused : goal.returns-in_err-whole-clause-refused
returns-in_err-whole-clause-refused g c =
    let p = err_from_is_err_and c.from_residual.result c.from_residual.ensures.1 in
    rw (p.1, p.2) (inl c.in_err-whole.ensures.refused)
