use Rattle.std.proofs.Common.{◌≡◌, ◌∙◌, ℕ, List, All, ap, subst, sym}
use Rattle.lsm_shelf.specs.Asked.{Asked}
use Rattle.lsm_shelf.specs.Place.{Place}
use Rattle.lsm_shelf.specs.Stored.{Stored}
use Rattle.lsm_shelf.specs.Told.{Told}
use Rattle.lsm_shelf.specs.declared.shelf_fault.ShelfFault.{ShelfFault}
use Rattle.lsm_mirror.specs.Mirrored.{MirrorStored}
use Rattle.lsm_mirror.specs.Refusals.{MirrorRefuses}
use Rattle.lsm_cmd_read.specs.Answers.{asking}
use Rattle.lsm_cmd_read.proofs.SeenLaws.{looks_below, looks_none, shown_done, shown_refused}
use Rattle.lsm_cmd_read.proofs.SeenLaws.{shown_without_room}
use Rattle.lsm_cmd_read.proofs.seeing.begin_shown.Goals as goal

pub returns-in-Err-clause-refused : goal.returns-in-Err-clause-refused
returns-in-Err-clause-refused g c =
    rw c.from.ensures
    (shown_without_room (asking c.args.inquiry.now) _ _ g.S.Shelf.honest g.V.Mirroring.shown
    (g.S.Shelf.told c.args.shelf) (g.O.Write.contents c.args.out.now))

pub returns-in-Err-clause-looks : goal.returns-in-Err-clause-looks
returns-in-Err-clause-looks g c = looks_none (g.S.Shelf.told c.args.shelf)

pub begin-done-requires-clause-shelves : goal.begin-done-requires-clause-shelves
begin-done-requires-clause-shelves g c κs within =
    let placed : c.of-mirror.result.place ≡ g.V.Mirroring.place =
    ap (λ (t : Told). t.place) c.of-mirror.ensures ∙ c.requires.place in
    subst (λ (p : Place). All (λ (m : Told). m.place ≡ p) c.in-Ok.mirrors.items) (sym placed)
    c.in-Ok.ensures

pub returns-clause-done : goal.returns-clause-done
returns-clause-done g c =
    let StoredAt : Place → ℕ → List ℕ → Type 0 =
    λ p number image. MirrorStored g.S.Receipt.TableReceipt (g.S.Shelf.is_of p)
    g.V.Mirroring.shown number image in
    let RefusedAt : Place → Asked → ShelfFault → Type 0 =
    λ p. MirrorRefuses
    (Stored g.row.S-Receipt.Denot (g.S.Shelf.is_of p) g.S.Receipt.TableReceipt.number
    g.S.Receipt.TableReceipt.image) (g.S.Shelf.refuses p) g.S.Shelf.honest g.V.Mirroring.shown in
    shown_done (asking c.args.inquiry.now) StoredAt RefusedAt g.S.Shelf.honest
    g.V.Mirroring.shown (g.S.Shelf.told c.args.shelf) (g.S.Shelf.told c.into_shelf.result)
    c.of-mirror.result c.begin-done.result.1 g.V.Mirroring.place c.of-mirror.ensures
    c.requires.place c.into_shelf.ensures.told c.begin-done.result.0 _ _ _ _
    c.begin-done.ensures.done

pub returns-clause-refused : goal.returns-clause-refused
returns-clause-refused g c =
    let StoredAt : Place → ℕ → List ℕ → Type 0 =
    λ p number image. MirrorStored g.S.Receipt.TableReceipt (g.S.Shelf.is_of p)
    g.V.Mirroring.shown number image in
    let RefusedAt : Place → Asked → ShelfFault → Type 0 =
    λ p. MirrorRefuses
    (Stored g.row.S-Receipt.Denot (g.S.Shelf.is_of p) g.S.Receipt.TableReceipt.number
    g.S.Receipt.TableReceipt.image) (g.S.Shelf.refuses p) g.S.Shelf.honest g.V.Mirroring.shown in
    shown_refused (asking c.args.inquiry.now) StoredAt RefusedAt g.S.Shelf.honest
    g.V.Mirroring.shown (g.S.Shelf.told c.args.shelf) (g.S.Shelf.told c.into_shelf.result)
    c.of-mirror.result c.begin-done.result.1 g.V.Mirroring.place c.of-mirror.ensures
    c.requires.place c.into_shelf.ensures.told c.begin-done.result.0 _ _
    c.begin-done.ensures.refused

pub returns-clause-looks : goal.returns-clause-looks
returns-clause-looks g c =
    looks_below g.V.Mirroring.shown (g.S.Shelf.told c.args.shelf)
    (g.S.Shelf.told c.into_shelf.result) c.of-mirror.result c.begin-done.result.1
    c.of-mirror.ensures c.into_shelf.ensures.told c.begin-done.ensures.reads
