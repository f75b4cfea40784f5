use Rattle.std.proofs.Common.{inl, inr, refl}
use Rattle.std.proofs.lemmas.Result.{err_from_is_err_and}
use Rattle.lsm_shelf.specs.Stored.{Stored}
use Rattle.lsm_recovery.proofs.BringLaws.{brought, unstanding}
use Rattle.lsm_recovery.proofs.bringing.bring_in.Goals as goal

pub returns-in-Ok-finish-clause-brought : goal.returns-in-Ok-finish-clause-brought
returns-in-Ok-finish-clause-brought g c =
    brought c.copies_answer.ensures.copy
    (Stored g.row.S-Receipt.Denot (g.S.Shelf.is_of g.N.Naming.place) g.S.Receipt.TableReceipt.number g.S.Receipt.TableReceipt.image)
    g.S.Shelf.honest c.args.files.now c.args.shape.now c.args.logs c.in-Ok-finish.entries c.args.shelf.now c.taken.new.shelf c.finish.new.shelf c.args.numbers.items c.in_ok-numbers.numbers.items
    c.in-Ok.standing c.requires.numbers c.in_ok-numbers.ensures.taken (rw c.deref.ensures.value at c.in-Ok.ensures.stands) c.in_ok-refuse_unread.ensures.flushed c.in-Ok-finish.ensures.brought

pub returns-in_err-numbers-clause-refused : goal.returns-in_err-numbers-clause-refused
returns-in_err-numbers-clause-refused g c =
    let p = err_from_is_err_and c.from_residual.result c.from_residual.ensures.1 in
    rw (p.1, p.2) (inl c.in_err-numbers.ensures.refused)

pub returns-in-Err-clause-refused : goal.returns-in-Err-clause-refused
returns-in-Err-clause-refused g c =
    unstanding (Stored g.row.S-Receipt.Denot (g.S.Shelf.is_of g.N.Naming.place) g.S.Receipt.TableReceipt.number g.S.Receipt.TableReceipt.image) (g.S.Shelf.refuses g.N.Naming.place) g.S.Shelf.honest c.args.files.now
    c.args.shape.now c.args.logs c.args.shelf.now c.taken.new.shelf c.args.numbers.items c.in_ok-numbers.numbers.items _ c.requires.numbers c.in_ok-numbers.ensures.taken
    (inl (c.in-Err.fault, refl, rw c.deref.ensures.value at c.in-Err.ensures.refused))

pub returns-in_err-refuse_unread-clause-refused : goal.returns-in_err-refuse_unread-clause-refused
returns-in_err-refuse_unread-clause-refused g c =
    let p = err_from_is_err_and c.from_residual-in_err-refuse_unread.result c.from_residual-in_err-refuse_unread.ensures.1 in
    rw (p.1, p.2) (unstanding (Stored g.row.S-Receipt.Denot (g.S.Shelf.is_of g.N.Naming.place) g.S.Receipt.TableReceipt.number g.S.Receipt.TableReceipt.image) (g.S.Shelf.refuses g.N.Naming.place) g.S.Shelf.honest
    c.args.files.now c.args.shape.now c.args.logs c.args.shelf.now c.taken.new.shelf c.args.numbers.items c.in_ok-numbers.numbers.items _ c.requires.numbers c.in_ok-numbers.ensures.taken
    (inr (c.in-Ok.standing, rw c.deref.ensures.value at c.in-Ok.ensures.stands, inl c.in_err-refuse_unread.ensures.refused)))

pub returns-clause-refused : goal.returns-clause-refused
returns-clause-refused g c =
    unstanding (Stored g.row.S-Receipt.Denot (g.S.Shelf.is_of g.N.Naming.place) g.S.Receipt.TableReceipt.number g.S.Receipt.TableReceipt.image) (g.S.Shelf.refuses g.N.Naming.place) g.S.Shelf.honest c.args.files.now
    c.args.shape.now c.args.logs c.args.shelf.now c.taken.new.shelf c.args.numbers.items c.in_ok-numbers.numbers.items _ c.requires.numbers c.in_ok-numbers.ensures.taken
    (inr (c.in-Ok.standing, rw c.deref.ensures.value at c.in-Ok.ensures.stands, inr c.in-Err-finish.ensures.refused))
