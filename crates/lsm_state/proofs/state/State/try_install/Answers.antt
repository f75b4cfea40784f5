use Rattle.std.proofs.Common.{refl, sym, subst, inr, arith}
use Rattle.std.proofs.lemmas.Result.{IfErr-weaker, on_ok_weaker}
use Rattle.lsm_shelf.specs.Asked.{Asked}
use Rattle.lsm_shelf.specs.declared.shelf_fault.ShelfFault.{ShelfFault}
use Rattle.lsm_merge.specs.Work.{Done}
use Rattle.lsm_state.specs.Asked.{InstallRefused, OnShelf}
use Rattle.lsm_state.specs.Held.{Held}
use Rattle.lsm_state.specs.Changing.{HasSlot, IsChangeRefusal}
use Rattle.lsm_state.specs.Installing.{IsInstallRefusal}
use Rattle.lsm_state.specs.declared.state_fault.StateFault.{StateFault}
use Rattle.lsm_state.proofs.AskedLaws.{at_once_asked, install_looked, on_more, slot_asked}
use Rattle.lsm_state.proofs.IngestLaws.{err_is}
use Rattle.lsm_state.proofs.InstallLaws.{answers_looked, installed_looked, installing_looked, later_refused, later_spends, looked_spends, slot_refused}
use Rattle.lsm_state.proofs.ChangeLaws.{on_err_from}
use Rattle.lsm_state.proofs.Removing.{on_err}
use Rattle.lsm_state.proofs.ReserveLaws.{if_err}
use Rattle.lsm_state.proofs.state.State.try_install.Goals as goal

pub returns-in_err-slot-clause-refused : goal.returns-in_err-slot-clause-refused
returns-in_err-slot-clause-refused g c =
    let h : Held = c.args.self.now in
    let mid : Held = c.find_slot.new.self in
    let d : Done = c.args.done.now in
    let told = c.args.shelf.now in
    let e : StateFault = c.in_err-slot.field-0.0 in
    let refused : IsInstallRefusal h mid d e told told = inr (c.in_ok-admit.ensures.ok, c.in_err-slot.ensures.sought, slot_refused h mid e told told c.in_err-slot.ensures.rest c.in_err-slot.ensures.refused refl) in
    if_err c.from_residual-in_err-slot.result _ (λ (f : StateFault). IsInstallRefusal h mid d f told told) c.from_residual-in_err-slot.ensures.1
    (λ f k. subst (λ (x : StateFault). IsInstallRefusal h mid d x told told) (sym k) refused)

pub returns-clause-installed : goal.returns-clause-installed
returns-clause-installed g c =
    on_ok_weaker c.put_in.result
    (λ p. installed_looked c.args.self.now c.find_slot.new.self c.put_in.new.self c.args.done.now c.args.shelf.now c.put_in.new.shelf c.in_ok-slot.ensures.rest c.in_ok-slot.ensures.sought p)
    c.put_in.ensures.installed

pub returns-clause-answers : goal.returns-clause-answers
returns-clause-answers g c =
    on_ok_weaker c.put_in.result
    (λ k fair. answers_looked c.args.self.now c.find_slot.new.self c.put_in.new.self c.in_ok-slot.ensures.rest (c.in_ok-slot.ensures.sought).looked (k fair)) c.put_in.ensures.answers

pub returns-clause-event : goal.returns-clause-event
returns-clause-event g c =
    on_ok_weaker c.put_in.result
    (λ r. installing_looked g.S.Shelf.honest c.args.self.now c.find_slot.new.self c.put_in.new.self c.args.done.now.work.ticket c.in_ok-slot.ensures.rest (c.in_ok-slot.ensures.sought).looked r) c.put_in.ensures.event

pub returns-clause-refused : goal.returns-clause-refused
returns-clause-refused g c =
    let h : Held = c.args.self.now in
    let mid : Held = c.find_slot.new.self in
    let new : Held = c.put_in.new.self in
    let d : Done = c.args.done.now in
    let was = c.args.shelf.now in
    let is = c.put_in.new.shelf in
    let room : HasSlot mid.slots = (c.in_ok-slot.slot, c.in_ok-slot.ensures.ok.0, c.in_ok-slot.ensures.ok.1) in
    IfErr-weaker c.put_in.result (λ (e : StateFault). IsChangeRefusal mid new e was is) (λ (e : StateFault). IsInstallRefusal h new d e was is)
    (λ e k. (let r = later_refused h mid new e was is c.in_ok-slot.ensures.rest c.in_ok-slot.ensures.sought room k in inr (c.in_ok-admit.ensures.ok, r.0, r.1))) c.put_in.ensures.refused

pub returns-in_err-admit-clause-event_err : goal.returns-in_err-admit-clause-event_err
returns-in_err-admit-clause-event_err g c = on_err c.from_residual.result (c.args.self.now.next, omega arith, refl)

pub returns-in_err-slot-clause-event_err : goal.returns-in_err-slot-clause-event_err
returns-in_err-slot-clause-event_err g c =
    on_err c.from_residual-in_err-slot.result (looked_spends c.args.self.now c.find_slot.new.self c.in_err-slot.ensures.rest (c.in_err-slot.ensures.sought).looked)

pub returns-clause-event_err : goal.returns-clause-event_err
returns-clause-event_err g c =
    let h : Held = c.args.self.now in
    let mid : Held = c.find_slot.new.self in
    let new : Held = c.put_in.new.self in
    let was = c.args.shelf.now in
    let is = c.put_in.new.shelf in
    on_err_from c.put_in.result (λ (e : StateFault). IsChangeRefusal mid new e was is)
    (λ e k. later_spends h mid new e was is c.in_ok-slot.ensures.rest (c.in_ok-slot.ensures.sought).looked k) c.put_in.ensures.refused

pub returns-in_err-admit-clause-asked : goal.returns-in_err-admit-clause-asked
returns-in_err-admit-clause-asked g c =
    let R : ShelfFault → Type 0 = InstallRefused (g.S.Shelf.refuses g.N.Naming.place) c.args.self.now c.args.done.now in
    err_is (OnShelf R) c.from_residual.result c.in_err-admit.field-0.0 c.from_residual.ensures.1 (at_once_asked R c.args.self.now c.args.done.now c.in_err-admit.field-0.0 c.in_err-admit.ensures.refused)

pub returns-in_err-slot-clause-asked : goal.returns-in_err-slot-clause-asked
returns-in_err-slot-clause-asked g c =
    let R : ShelfFault → Type 0 = InstallRefused (g.S.Shelf.refuses g.N.Naming.place) c.args.self.now c.args.done.now in
    err_is (OnShelf R) c.from_residual-in_err-slot.result c.in_err-slot.field-0.0 c.from_residual-in_err-slot.ensures.1
    (slot_asked R c.args.self.now.slots c.find_slot.new.self.slots c.in_err-slot.field-0.0 c.in_err-slot.ensures.refused)

pub returns-clause-asked : goal.returns-clause-asked
returns-clause-asked g c =
    let Refused : Asked → ShelfFault → Type 0 = g.S.Shelf.refuses g.N.Naming.place in
    let h : Held = c.args.self.now in
    let mid : Held = c.find_slot.new.self in
    let d : Done = c.args.done.now in
    IfErr-weaker c.put_in.result (OnShelf (InstallRefused Refused mid d)) (OnShelf (InstallRefused Refused h d))
    (λ e k. on_more (InstallRefused Refused mid d) (InstallRefused Refused h d) (λ f r. install_looked Refused h mid d f c.in_ok-slot.ensures.rest (c.in_ok-slot.ensures.sought).looked.version r) e k) c.put_in.ensures.asked
