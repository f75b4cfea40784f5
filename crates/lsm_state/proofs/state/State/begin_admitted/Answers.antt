use Rattle.std.proofs.Common.{◌≡◌, false, refl, sym, subst, inl, inr}
use Rattle.std.specs.Prelude.{IfOk, IfErr}
use Rattle.std.proofs.lemmas.Result.{err_from_is_err_and}
use Rattle.lsm_state.specs.Held.{Held}
use Rattle.lsm_state.specs.Opening.{IsAnew, IsNotAnew, IsOpenable, opened_state}
use Rattle.lsm_state.proofs.OpenLaws.{board_opened, parts_opened}
use Rattle.lsm_state.proofs.UnjudgedLaws.{own_opened, refused_of}
use Rattle.lsm_state.proofs.state.State.begin_admitted.Goals as goal

pub begin-requires-clause-board : goal.begin-requires-clause-board
begin-requires-clause-board g c κs within =
    let s = c.in_ok-state.state in
    let publisher = c.args.board.0 in
    let pinners = c.args.board.1.items in
    board_opened g.N.Boarded.board c.args.options publisher pinners s
    (own_opened c.args.options publisher pinners _ _ _ s c.in_ok-state.ensures) c.requires.board

pub begin-requires-clause-opened : goal.begin-requires-clause-opened
begin-requires-clause-opened g c κs within =
    let s = c.in_ok-state.state in
    let publisher = c.args.board.0 in
    let pinners = c.args.board.1.items in
    parts_opened c.args.options publisher pinners s
    (own_opened c.args.options publisher pinners _ _ _ s c.in_ok-state.ensures)

pub begin-requires-clause-openable : goal.begin-requires-clause-openable
begin-requires-clause-openable g c κs within =
    let rest = c.requires.openable.0 in (
      rest,
      subst (λ (x : Held). IsOpenable g.S.Shelf.honest x.journal x.slots.version rest x.next)
          (sym c.in_ok-state.ensures) c.requires.openable.1,
    )

pub returns-in_err-state-clause-refused : goal.returns-in_err-state-clause-refused
returns-in_err-state-clause-refused g c =
    let p = err_from_is_err_and c.from_residual.result c.from_residual.ensures.1 in
    rw (p.1, p.2) (inl (refl, refl))

pub returns-clause-anew : goal.returns-clause-anew
returns-clause-anew g c =
    let old = c.args.shelf.now in
    let new = c.begin.new.shelf in
    subst (λ (x : Held). IfOk c.begin.result
    (λ t. IsAnew x.slots.version x.next x.journal t.journal t.next old new))
    c.in_ok-state.ensures c.begin.ensures.anew

pub returns-clause-opened : goal.returns-clause-opened
returns-clause-opened g c =
    subst (λ (x : Held). IfOk c.begin.result (λ t. t ≡ opened_state x.options x.slots.board
    x.pinners x.slots.version t.journal t.next false)) c.in_ok-state.ensures
    c.begin.ensures.opened

pub returns-clause-refused : goal.returns-clause-refused
returns-clause-refused g c =
    let Refused = g.S.Shelf.refuses g.N.Naming.place in
    let old = c.args.shelf.now in
    let new = c.begin.new.shelf in
    refused_of c.begin.result _ _ (λ e n. inr n) (subst (λ (x : Held). IfErr c.begin.result
    (λ e. IsNotAnew Refused x.slots.version x.next x.journal e old new)) c.in_ok-state.ensures
    c.begin.ensures.refused)
