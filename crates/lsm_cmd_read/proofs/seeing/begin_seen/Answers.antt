use Rattle.std.proofs.Common.{◌≡◌, ℕ, List, IfErr, OnOk, subst}
use Rattle.lsm_shelf.specs.Stored.{Stored}
use Rattle.lsm_mirror.specs.Mirrored.{MirrorStored}
use Rattle.lsm_mirror.specs.Refusals.{MirrorRefuses}
use Rattle.lsm_mirror.specs.Shown.{shown_of}
use Rattle.lsm_mirror.specs.declared.view.View.{View}
use Rattle.lsm_cmd_read.specs.Answers.{asking, moment}
use Rattle.lsm_cmd_read.specs.Seen.{IsNotSeenInto, IsSeenInto}
use Rattle.lsm_cmd_read.proofs.SeenLaws.{looks_none, shown_without_room}
use Rattle.lsm_cmd_read.proofs.seeing.begin_seen.Goals as goal

pub returns-in-Ok-clause-done : goal.returns-in-Ok-clause-done
returns-in-Ok-clause-done g c =
    let place = (g.S.Shelf.told c.args.shelf).place in
    subst (λ (v : View). OnOk c.begin_shown.result.0 (IsSeenInto (asking c.args.inquiry.now)
    (MirrorStored g.S.Receipt.TableReceipt (g.S.Shelf.is_of place) (shown_of v))
    g.S.Shelf.honest (shown_of v)
    (moment (g.S.Shelf.told c.args.shelf) (g.O.Write.contents c.args.out.now))
    (moment (g.S.Shelf.told c.begin_shown.result.1)
    (g.O.Write.contents c.begin_shown.new.out)) (g.E.Write.contents c.args.err.now)
    (g.E.Write.contents c.begin_shown.new.err))) c.in-Ok.ensures.ok c.begin_shown.ensures.done

pub returns-in-Ok-clause-refused : goal.returns-in-Ok-clause-refused
returns-in-Ok-clause-refused g c =
    let place = (g.S.Shelf.told c.args.shelf).place in
    subst (λ (v : View). IfErr c.begin_shown.result.0
    (λ e. IsNotSeenInto (asking c.args.inquiry.now)
    (MirrorStored g.S.Receipt.TableReceipt (g.S.Shelf.is_of place) (shown_of v))
    (MirrorRefuses
    (Stored g.row.S-Receipt.Denot (g.S.Shelf.is_of place) g.S.Receipt.TableReceipt.number
    g.S.Receipt.TableReceipt.image) (g.S.Shelf.refuses place) g.S.Shelf.honest (shown_of v))
    g.S.Shelf.honest (shown_of v) e
    (moment (g.S.Shelf.told c.args.shelf) (g.O.Write.contents c.args.out.now))
    (moment (g.S.Shelf.told c.begin_shown.result.1)
    (g.O.Write.contents c.begin_shown.new.out)))) c.in-Ok.ensures.ok
    c.begin_shown.ensures.refused

pub returns-in-Err-clause-refused : goal.returns-in-Err-clause-refused
returns-in-Err-clause-refused g c =
    rw c.from.ensures
    (shown_without_room (asking c.args.inquiry.now) _ _ g.S.Shelf.honest (shown_of c.args.view)
    (g.S.Shelf.told c.args.shelf) (g.O.Write.contents c.args.out.now))

pub returns-in-Err-clause-looks : goal.returns-in-Err-clause-looks
returns-in-Err-clause-looks g c = looks_none (g.S.Shelf.told c.args.shelf)
