use Rattle.std.proofs.Common.{ℕ, ◌∙◌, refl, ap, inl, inr, arith}
use Rattle.lsm_shelf.specs.Asked.{Asked}
use Rattle.lsm_shelf.specs.declared.shelf_fault.ShelfFault.{ShelfFault}
use Rattle.lsm_shelf.specs.Told.{Told}
use Rattle.lsm_state.specs.Changing.{HasSlot, IsSlotRefusal}
use Rattle.lsm_state.specs.Gathering.{GatherRefused, HasNoneToGather, IsGatherRefusal, IsGatherRefusedAtOnce, MayGather}
use Rattle.lsm_state.specs.Held.{Held, plain}
use Rattle.lsm_state.specs.declared.gather_fault.GatherFault.{GatherFault}
use Rattle.lsm_state.specs.declared.gather_fault.GatherFault.TheVariants.{State}
use Rattle.lsm_state.specs.declared.state_fault.StateFault.{StateFault}
use Rattle.lsm_state.proofs.GatherLaws.{answers_gathered, asked_looked, fault_is, gathering_looked, gathers_looked, may_looked, refused_looked, spends_looked, state_asked}
use Rattle.lsm_state.proofs.IngestLaws.{slots_spend}
use Rattle.lsm_state.proofs.Removing.{on_err}
use Rattle.lsm_state.proofs.ReserveLaws.{match_some}
use Rattle.lsm_state.proofs.state.State.gather.Goals as goal

pub gather_in-requires-clause-may : goal.gather_in-requires-clause-may
gather_in-requires-clause-may g c κs within =
    let h : Held = c.args.self.now in
    let m : Held = c.find_slot.new.self in
    let least : ℕ = c.in-Some.least in
    let may : MayGather h least = match_some c.in_ok-least.field-0 least (HasNoneToGather h) (MayGather h) c.in-Some.is c.in_ok-least.ensures.may in
    let looked = c.find_slot.ensures.rest in
    let sought = c.find_slot.ensures.sought in
    may_looked h m least looked sought.looked.version may

pub returns-clause-ok : goal.returns-clause-ok
returns-clause-ok g c =
    let h : Held = c.args.self.now in
    let m : Held = c.find_slot.new.self in
    let least : ℕ = c.in-Some.least in
    let may : MayGather h least = match_some c.in_ok-least.field-0 least (HasNoneToGather h) (MayGather h) c.in-Some.is c.in_ok-least.ensures.may in
    let looked = c.find_slot.ensures.rest in
    let sought = c.find_slot.ensures.sought in
    gathers_looked g.S.Shelf.honest h m c.gather_in.new.self least c.next_file-number.result c.args.shelf.now c.gather_in.new.shelf (c.next_file-number.ensures ∙ ap (λ (z : Held). z.next) looked) may looked sought c.in_ok-gather_in.ensures.ok

pub returns-clause-event : goal.returns-clause-event
returns-clause-event g c =
    let h : Held = c.args.self.now in
    let m : Held = c.find_slot.new.self in
    let least : ℕ = c.in-Some.least in
    let may : MayGather h least = match_some c.in_ok-least.field-0 least (HasNoneToGather h) (MayGather h) c.in-Some.is c.in_ok-least.ensures.may in
    let looked = c.find_slot.ensures.rest in
    let sought = c.find_slot.ensures.sought in
    gathering_looked g.S.Shelf.honest h m c.gather_in.new.self looked sought c.in_ok-gather_in.ensures.event

pub returns-clause-answers : goal.returns-clause-answers
returns-clause-answers g c =
    let h : Held = c.args.self.now in
    let m : Held = c.find_slot.new.self in
    let least : ℕ = c.in-Some.least in
    let may : MayGather h least = match_some c.in_ok-least.field-0 least (HasNoneToGather h) (MayGather h) c.in-Some.is c.in_ok-least.ensures.may in
    let looked = c.find_slot.ensures.rest in
    let sought = c.find_slot.ensures.sought in
    λ honest. answers_gathered g.S.Shelf.honest h c.gather_in.new.self (c.gathering_changes_no_answer.ensures (plain h) (plain c.gather_in.new.self) honest c.options-options.ensures.law.law (gathering_looked g.S.Shelf.honest h m c.gather_in.new.self looked sought c.in_ok-gather_in.ensures.event))

pub returns-clause-history : goal.returns-clause-history
returns-clause-history g c =
    let h : Held = c.args.self.now in
    let m : Held = c.find_slot.new.self in
    let least : ℕ = c.in-Some.least in
    let may : MayGather h least = match_some c.in_ok-least.field-0 least (HasNoneToGather h) (MayGather h) c.in-Some.is c.in_ok-least.ensures.may in
    let looked = c.find_slot.ensures.rest in
    let sought = c.find_slot.ensures.sought in
    c.gather_in.ensures.history ∙ ap (λ (z : Held). z.history) looked

pub returns-in_err-least-clause-refused : goal.returns-in_err-least-clause-refused
returns-in_err-least-clause-refused g c =
    let h : Held = c.args.self.now in
    let was : Told = c.args.shelf.now in
    fault_is (λ (e : GatherFault). IsGatherRefusal g.S.Shelf.honest h h e was was) c.from_residual.result (State c.in_err-least.field-0.0) c.from_residual.ensures.1 (inl (c.in_err-least.ensures.refused, refl, refl))

pub returns-in_err-least-clause-event_err : goal.returns-in_err-least-clause-event_err
returns-in_err-least-clause-event_err g c =
    on_err c.from_residual.result (c.args.self.now.next, omega arith, refl)

pub returns-in_err-least-clause-asked : goal.returns-in_err-least-clause-asked
returns-in_err-least-clause-asked g c =
    let Refused : Asked → ShelfFault → Type 0 = g.S.Shelf.refuses g.N.Naming.place in
    let h : Held = c.args.self.now in
    fault_is (GatherRefused Refused h) c.from_residual.result (State c.in_err-least.field-0.0) c.from_residual.ensures.1
    (state_asked Refused h c.in_err-least.field-0.0 (λ (e : StateFault). IsGatherRefusedAtOnce h (State e)) (λ f q. absurd q) c.in_err-least.ensures.refused)

pub returns-in_err-slot-clause-refused : goal.returns-in_err-slot-clause-refused
returns-in_err-slot-clause-refused g c =
    let h : Held = c.args.self.now in
    let m : Held = c.find_slot.new.self in
    let least : ℕ = c.in-Some.least in
    let may : MayGather h least = match_some c.in_ok-least.field-0 least (HasNoneToGather h) (MayGather h) c.in-Some.is c.in_ok-least.ensures.may in
    let looked = c.find_slot.ensures.rest in
    let sought = c.find_slot.ensures.sought in
    let was : Told = c.args.shelf.now in
    fault_is (λ (e : GatherFault). IsGatherRefusal g.S.Shelf.honest h m e was was) c.from_residual-in_err-slot.result (State c.in_err-slot.field-0.0) c.from_residual-in_err-slot.ensures.1
    (inr (least, may, inl (looked, sought, c.in_err-slot.ensures.refused, refl)))

pub returns-in_err-slot-clause-event_err : goal.returns-in_err-slot-clause-event_err
returns-in_err-slot-clause-event_err g c =
    on_err c.from_residual-in_err-slot.result (slots_spend c.args.self.now c.find_slot.new.self c.find_slot.new.self.slots c.find_slot.ensures.sought c.find_slot.ensures.rest)

pub returns-in_err-slot-clause-history : goal.returns-in_err-slot-clause-history
returns-in_err-slot-clause-history g c =
    ap (λ (z : Held). z.history) c.find_slot.ensures.rest

pub returns-in_err-slot-clause-asked : goal.returns-in_err-slot-clause-asked
returns-in_err-slot-clause-asked g c =
    let Refused : Asked → ShelfFault → Type 0 = g.S.Shelf.refuses g.N.Naming.place in
    let h : Held = c.args.self.now in
    fault_is (GatherRefused Refused h) c.from_residual-in_err-slot.result (State c.in_err-slot.field-0.0) c.from_residual-in_err-slot.ensures.1
    (state_asked Refused h c.in_err-slot.field-0.0 (IsSlotRefusal h.slots c.find_slot.new.self.slots) (λ f q. absurd q) c.in_err-slot.ensures.refused)

pub returns-in_err-gather_in-clause-refused : goal.returns-in_err-gather_in-clause-refused
returns-in_err-gather_in-clause-refused g c =
    let h : Held = c.args.self.now in
    let m : Held = c.find_slot.new.self in
    let least : ℕ = c.in-Some.least in
    let may : MayGather h least = match_some c.in_ok-least.field-0 least (HasNoneToGather h) (MayGather h) c.in-Some.is c.in_ok-least.ensures.may in
    let looked = c.find_slot.ensures.rest in
    let sought = c.find_slot.ensures.sought in
    let y : Held = c.gather_in.new.self in
    let was : Told = c.args.shelf.now in
    let is : Told = c.gather_in.new.shelf in
    let room : HasSlot m.slots = (c.in_ok-slot.slot, c.in_ok-slot.ensures.ok.0, c.in_ok-slot.ensures.ok.1) in
    let e : GatherFault = c.in_err-gather_in.field-0.0 in
    fault_is (λ (f : GatherFault). IsGatherRefusal g.S.Shelf.honest h y f was is) c.from_residual-in_err-gather_in.result e c.from_residual-in_err-gather_in.ensures.1
    (refused_looked g.S.Shelf.honest h m y least e was is may looked sought room c.in_err-gather_in.ensures.slots c.in_err-gather_in.ensures.refused)

pub returns-in_err-gather_in-clause-event_err : goal.returns-in_err-gather_in-clause-event_err
returns-in_err-gather_in-clause-event_err g c =
    on_err c.from_residual-in_err-gather_in.result (spends_looked c.args.self.now c.find_slot.new.self c.gather_in.new.self c.find_slot.ensures.rest c.find_slot.ensures.sought c.in_err-gather_in.ensures.event_err)

pub returns-in_err-gather_in-clause-history : goal.returns-in_err-gather_in-clause-history
returns-in_err-gather_in-clause-history g c =
    c.gather_in.ensures.history ∙ ap (λ (z : Held). z.history) c.find_slot.ensures.rest

pub returns-in_err-gather_in-clause-asked : goal.returns-in_err-gather_in-clause-asked
returns-in_err-gather_in-clause-asked g c =
    let Refused : Asked → ShelfFault → Type 0 = g.S.Shelf.refuses g.N.Naming.place in
    let h : Held = c.args.self.now in
    let m : Held = c.find_slot.new.self in
    let e : GatherFault = c.in_err-gather_in.field-0.0 in
    fault_is (GatherRefused Refused h) c.from_residual-in_err-gather_in.result e c.from_residual-in_err-gather_in.ensures.1
    (asked_looked Refused h m e c.find_slot.ensures.rest (c.find_slot.ensures.sought).looked.version c.in_err-gather_in.ensures.asked)
