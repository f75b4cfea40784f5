-- What a collection removes (this project's rule).
use Rattle.std.specs.Prelude.{◌≡◌, ℕ, List, length, false}
use Rattle.lsm_codec.specs.Entries.{Entry}
use Rattle.lsm_shelf.specs.Told.{Told}
use Rattle.lsm_state.specs.Collecting.{AreCollected, HasLookedAround, IsCollectRefusal}
use Rattle.lsm_state.specs.Held.{Held}
use Rattle.lsm_state.specs.declared.state_fault.StateFault.{StateFault}
use Rattle.lsm_channels.specs.Served.{IsLent}

-- The state goes on, and looked at its slots. So many tables were removed: those that the shelf
-- listed and that the state then did not keep.
pub record CollectsAt (was is : Held) (count : ℕ) (before after : Told) : Type 0 where
  pub goes_on : was.halted ≡ false
  pub looked : HasLookedAround was is
  pub removed : List ℕ
  pub count_is : count ≡ length removed
  pub collected : AreCollected is removed before after

-- The state refused; some tables that it does not keep may have been removed by then.
pub record RefusesAt (was is : Held) (e : StateFault) (before after : Told) : Type 0 where
  pub removed : List ℕ
  pub refusal : IsCollectRefusal was is e removed before after

-- at one taking of the lock, of the state that it gave, which has all that the channel knew
abbrev pub IsCollected : (Held → Type 0) → ℕ → (knew knows : List Entry) → Told → Told → Type 0
IsCollected keeps count knew knows before after =
    (was : Held) × (is : Held) × IsLent keeps was knew knows × CollectsAt was is count before after

abbrev pub IsCollectFault : (Held → Type 0) → StateFault → (knew knows : List Entry) → Told → Told
    → Type 0
IsCollectFault keeps e knew knows before after =
    (was : Held) × (is : Held) × IsLent keeps was knew knows × RefusesAt was is e before after
