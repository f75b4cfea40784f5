use Rattle.std.proofs.Common.{[], All, List, map, sym, subst, ap, ◌∙◌}
use Rattle.lsm_pins.specs.Known.{Known}
use Rattle.lsm_slots.specs.Slots.{current_id}
use Rattle.lsm_state.specs.Held.{Held}
use Rattle.lsm_store.specs.Readers.{IsKnownBy, KnownVersion, seated}
use Rattle.lsm_store.proofs.store.Store.new.Goals as goal

pub seat_all-readers-requires-clause-caches : goal.seat_all-readers-requires-clause-caches
seat_all-readers-requires-clause-caches g c κs within =
    let AreAt = (λ (h : Held). All (IsKnownBy h g.N.Naming.place) c.in-Ok.made.0.items) in
    subst AreAt (sym c.take_ends-pinners.ensures.same) (subst AreAt (sym c.make_caches.ensures.same) c.in-Ok.ensures.caches)

pub returns-clause-readers : goal.returns-clause-readers
returns-clause-readers g c =
    let place = g.N.Naming.place in
    let readers = (λ (h : Held). map (seated h place) c.take_ends-pinners.result.items) in
    c.seat_all-readers.ensures.readers ∙ ap readers c.take_ends-pinners.ensures.same ∙ ap readers c.make_caches.ensures.same
    ∙ ap (λ (ps : List Known). map (seated c.args.state place) ps) (c.take_ends-pinners.ensures.all ∙ ap (λ (h : Held). h.pinners) c.make_caches.ensures.same)

-- the fact holds of the state that goes into the store
pub invariant_of-new : goal.invariant_of-new
invariant_of-new g c =
    let board = c.seat_all-readers.new.state.slots.board in
    let learnt = (λ (h : Held). record h { slots = record h.slots { board = board } }) in
    let taken = (λ (h : Held). record h { pinners = [] }) in
    let same = c.seat_all-readers.ensures.rest ∙ ap learnt (c.take_ends-pinners.ensures.same ∙ ap taken c.make_caches.ensures.same) in
    let id = ap (λ (d : KnownVersion). d.id) c.seat_all-readers.ensures.same ∙ ap (λ (h : Held). current_id h.slots) (c.take_ends-pinners.ensures.same ∙ ap taken c.make_caches.ensures.same) in
    record { kept = ∣ c.requires.kept c.seat_all-readers.new.state (record { end = board; current = id }, same) ∣₁ }
