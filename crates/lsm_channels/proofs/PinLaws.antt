-- Pins, and what the readers know for which they were made.
use Rattle.std.proofs.Common.{◌≡◌, ℕ, List, Option, Some, sym, ap, ◌∙◌, subst, inl, inr}
use Rattle.std.specs.Prelude.{slice_get}
use Rattle.lsm_codec.specs.Entries.{Entry}
use Rattle.lsm_history.specs.History.{IsLater}
use Rattle.lsm_slots.specs.Slots.{Epoch, Slotted, current_slot}
use Rattle.lsm_state.specs.Held.{Held}
use Rattle.lsm_state.specs.declared.state_fault.StateFault.{StateFault}
use Rattle.lsm_store.specs.Readers.{IsBegun, IsIdle, IsPinning, IsRefused, Learnt, refreshed, unpinned}
use Rattle.lsm_store.specs.declared.begin_fault.BeginFault.{BeginFault}
use Rattle.lsm_store.specs.declared.begin_fault.BeginFault.TheVariants.{Moved, PinsSpent}
use Rattle.lsm_channels.specs.Pinning.{HasLearnt, HasSameVersions, IsUnpinned, KnowsSame}
use Rattle.lsm_channels.specs.Seen.{Learns}

-- ---- a pin of a reader's own

-- what a reader becomes leaves what it knows
pub begun_knows : (r v : Learnt) → IsBegun r v → KnowsSame r v
begun_knows r v h = let e = h.1 in
    (ap (λ (l : Learnt). l.id) e, ap (λ (l : Learnt). l.version) e, ap (λ (l : Learnt). l.history) e, ap (λ (l : Learnt). l.snapshots) e)

pub begun_pins : (r v : Learnt) → IsBegun r v → IsPinning v
begun_pins r v h = (h.0, ap (λ (l : Learnt). l.pinner.knows.held) h.1 ∙ ap (λ (i : ℕ). Some (i, h.0)) (sym (ap (λ (l : Learnt). l.id) h.1)))

-- a reader that was refused knows what it knew
pub refused_knows : (r back : Learnt) (fault : BeginFault) → IsRefused r back fault → KnowsSame r back
refused_knows r back (Moved id) h = let e = h.2.1 in
    (ap (λ (l : Learnt). l.id) e, ap (λ (l : Learnt). l.version) e, ap (λ (l : Learnt). l.history) e, ap (λ (l : Learnt). l.snapshots) e)
refused_knows r back PinsSpent h = let e = h.1 in
    (ap (λ (l : Learnt). l.id) e, ap (λ (l : Learnt). l.version) e, ap (λ (l : Learnt). l.history) e, ap (λ (l : Learnt). l.snapshots) e)

-- ---- a pin under the lock

-- a reader that holds no pin of its own is as if one had been given back
idle_unpinned : (r : Learnt) → IsIdle r → r ≡ unpinned r
idle_unpinned r idle = ap (λ (held : Option (ℕ × ℕ)). record r { pinner = record r.pinner { knows = record r.pinner.knows { held = held } } }) idle

pub ended_idle : (r back : Learnt) → back ≡ r → IsIdle back → back ≡ unpinned r
ended_idle r back e idle = e ∙ idle_unpinned r (subst IsIdle e idle)

-- ---- a reader that has learnt the current version

-- it has learnt that of the state that its learning leaves
pub still_learnt : (was is : Held) (r back : Learnt) → back ≡ refreshed was r → HasSameVersions was.slots is.slots → HasLearnt is.slots back
still_learnt was is r back e same = (ap (λ (l : Learnt). l.id) e ∙ sym same.id, ap (λ (l : Learnt). l.version) e ∙ sym same.version)

-- what is seen for it is what it has learnt
pub learns_by : (h : Held) (r back seen : Learnt) → back ≡ refreshed h r → IsLater back.history r.history → KnowsSame back seen → Learns h r seen
learns_by h r back seen e later same = record {
  id = same.0 ∙ ap (λ (l : Learnt). l.id) e;
  version = same.1 ∙ ap (λ (l : Learnt). l.version) e;
  history = same.2 ∙ ap (λ (l : Learnt). l.history) e;
  snapshots = same.3 ∙ ap (λ (l : Learnt). l.snapshots) e;
  later = subst (λ (hs : List Entry). IsLater hs r.history) (sym same.2) later;
}

pub later_by : (r back seen : Learnt) → IsLater back.history r.history → KnowsSame back seen → IsLater seen.history r.history
later_by r back seen later same = subst (λ (hs : List Entry). IsLater hs r.history) (sym same.2) later

-- why the version is not pinned is of the state before it too
pub unpinned_since : (was is : Held) (e : StateFault) → HasSameVersions was.slots is.slots → IsUnpinned is e → IsUnpinned was e
unpinned_since was is e same (inl h) =
    let there = subst (λ (es : List (Option Epoch)). slice_get es (current_slot is.slots) ≡ Some (Some h.1.0)) same.epochs h.1.1 in
    inl (h.0, (h.1.0, subst (λ (n : ℕ). slice_get was.slots.epochs n ≡ Some (Some h.1.0)) same.slot there, h.1.2))
unpinned_since was is e same (inr h) = inr h

-- ---- what is left as it was

-- of a state nothing but the slots changed
pub rest_of : (was is : Held) (slots : Slotted) → is ≡ record was { slots = slots } → is ≡ record was { slots = is.slots }
rest_of was is slots e = e ∙ ap (λ (s : Slotted). record was { slots = s }) (sym (ap (λ (h : Held). h.slots) e))

-- nor behind that
pub rest_on : (was mid is : Held) (slots : Slotted) → mid ≡ record was { slots = slots } → is ≡ record mid { slots = is.slots } → is ≡ record was { slots = is.slots }
rest_on was mid is slots e f = f ∙ ap (λ (h : Held). record h { slots = is.slots }) e
