-- A state of which slots were looked at alone.
use Rattle.std.proofs.Common.{◌≡◌, ap, inl, inr}
use Rattle.lsm_picker.specs.TablePlans.{TablePlan}
use Rattle.lsm_slots.specs.Slots.{Looked}
use Rattle.lsm_state.specs.Held.{Held}
use Rattle.lsm_state.specs.Reserving.{HasNoneReady, WaitsForOthers}
use Rattle.lsm_bulk_load.specs.Ending.{IsIdle}
use Rattle.lsm_bulk_load.specs.Marks.{marked_in}

pub same_mark : (was is : Held) → Looked was.slots is.slots → is ≡ record was { slots = is.slots } → marked_in is ≡ marked_in was
same_mark was is looked rest =
    let came : is.history ≡ was.history = ap (λ (h : Held). h.history) rest in
    let version : is.slots.version ≡ was.slots.version = looked.version in
    rw (came, version)

waits : (was is : Held) → is.slots.version ≡ was.slots.version → is.live ≡ was.live
    → is.options ≡ was.options → (p : TablePlan) → WaitsForOthers was p → WaitsForOthers is p
waits was is version live options p w = record {
  chosen = rw (live, version) w.chosen;
  level = w.level;
  no_move = rw (version, options) w.no_move;
}

none_ready : (was is : Held) → is.slots.version ≡ was.slots.version → is.live ≡ was.live → is.options ≡ was.options → HasNoneReady was → HasNoneReady is
none_ready was is version live options (inl none) = inl (rw (live, version) none)
none_ready was is version live options (inr w) = inr (w.0, waits was is version live options w.0 w.1, rw (live, version, options) w.2)

pub still_idle : (was is : Held) → Looked was.slots is.slots → is ≡ record was { slots = is.slots } → IsIdle was → IsIdle is
still_idle was is looked rest idle =
    let live : is.live ≡ was.live = ap (λ (h : Held). h.live) rest in
    let options : is.options ≡ was.options = ap (λ (h : Held). h.options) rest in
    let version : is.slots.version ≡ was.slots.version = looked.version in (
      rw (live, version, options) idle.0,
      (rw (live, version, options) idle.1.0, rw (live, version) idle.1.1, none_ready was is version live options idle.1.2),
    )
