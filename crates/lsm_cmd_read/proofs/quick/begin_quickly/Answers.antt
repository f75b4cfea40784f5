use Rattle.std.proofs.Common.{◌≡◌, ℕ, List, IfErr, OnOk, subst}
use Rattle.lsm_shelf.specs.Stored.{Stored}
use Rattle.lsm_shelf.specs.Told.{Becomes, Place, finding}
use Rattle.lsm_journal.specs.Recovering.{IsRecoverRefusal}
use Rattle.lsm_cmd_read.specs.Answers.{asking, moment}
use Rattle.lsm_cmd_read.specs.Quick.{FailsQuickly, LooksQuickly}
use Rattle.lsm_cmd_read.proofs.QuickLaws.{quickly_reads, quickly_unread}
use Rattle.lsm_cmd_read.proofs.ReadingOutcomes.{recover_reads}
use Rattle.lsm_cmd_read.proofs.quick.begin_quickly.Goals as goal

pub returns-in-Ok-clause-done : goal.returns-in-Ok-clause-done
returns-in-Ok-clause-done g c =
    let r = c.in-Ok.recovered in
    let was = g.S.Shelf.told c.args.shelf in
    let found : Becomes (finding r.journal.number r.journal.bytes was)
    (g.S.Shelf.told c.recover_manifest-recovered.result.1) =
    rw c.in-Ok.is at c.recover_manifest-recovered.ensures.found in
    subst (λ (p : Place). OnOk c.begin_recovered.result.0
    (LooksQuickly (asking c.args.inquiry.now) (g.S.Finding.keeps p)
    (Stored g.row.S-Receipt.Denot (g.S.Shelf.is_of p) g.S.Receipt.TableReceipt.number
    g.S.Receipt.TableReceipt.image) g.S.Shelf.honest
    (moment was (g.O.Write.contents c.args.out.now))
    (moment (g.S.Shelf.told c.begin_recovered.result.1)
    (g.O.Write.contents c.begin_recovered.new.out)) (g.E.Write.contents c.args.err.now)
    (g.E.Write.contents c.begin_recovered.new.err))) found.place
    (c.begin_recovered.ensures.done was found)

pub returns-in-Ok-clause-refused : goal.returns-in-Ok-clause-refused
returns-in-Ok-clause-refused g c =
    let r = c.in-Ok.recovered in
    let was = g.S.Shelf.told c.args.shelf in
    let found : Becomes (finding r.journal.number r.journal.bytes was)
    (g.S.Shelf.told c.recover_manifest-recovered.result.1) =
    rw c.in-Ok.is at c.recover_manifest-recovered.ensures.found in
    subst (λ (p : Place). IfErr c.begin_recovered.result.0
    (λ e. FailsQuickly (asking c.args.inquiry.now) (g.S.Finding.keeps p)
    (Stored g.row.S-Receipt.Denot (g.S.Shelf.is_of p) g.S.Receipt.TableReceipt.number
    g.S.Receipt.TableReceipt.image) (g.S.Shelf.refuses p) g.S.Shelf.honest e
    (moment was (g.O.Write.contents c.args.out.now))
    (moment (g.S.Shelf.told c.begin_recovered.result.1)
    (g.O.Write.contents c.begin_recovered.new.out)))) found.place
    (c.begin_recovered.ensures.refused was found)

pub returns-in-Ok-clause-reads : goal.returns-in-Ok-clause-reads
returns-in-Ok-clause-reads g c =
    quickly_reads _ _ g.S.Shelf.honest _ c.begin_recovered.result.0 (asking c.args.inquiry.now) _ _
    _ _ (returns-in-Ok-clause-done g c) (returns-in-Ok-clause-refused g c)

pub returns-in-Err-clause-refused : goal.returns-in-Err-clause-refused
returns-in-Err-clause-refused g c =
    let refused : IsRecoverRefusal (g.S.Shelf.refuses (g.S.Shelf.told c.args.shelf).place)
    c.in-Err.fault (g.S.Shelf.told c.args.shelf)
    (g.S.Shelf.told c.recover_manifest-recovered.result.1) =
    rw c.in-Err.is at c.recover_manifest-recovered.ensures.refused in
    rw c.from.ensures
    (quickly_unread _ _ g.S.Shelf.honest (g.S.Shelf.refuses (g.S.Shelf.told c.args.shelf).place)
    (asking c.args.inquiry.now) c.in-Err.fault _ _ (g.O.Write.contents c.args.out.now) refused)

pub returns-in-Err-clause-reads : goal.returns-in-Err-clause-reads
returns-in-Err-clause-reads g c =
    let refused : IsRecoverRefusal (g.S.Shelf.refuses (g.S.Shelf.told c.args.shelf).place)
    c.in-Err.fault (g.S.Shelf.told c.args.shelf)
    (g.S.Shelf.told c.recover_manifest-recovered.result.1) =
    rw c.in-Err.is at c.recover_manifest-recovered.ensures.refused in
    recover_reads (g.S.Shelf.refuses (g.S.Shelf.told c.args.shelf).place) c.in-Err.fault _ _ refused
