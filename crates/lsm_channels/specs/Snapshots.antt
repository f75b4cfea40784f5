-- How snapshots are taken and given up (this project's rule).
use Rattle.std.specs.Prelude.{◌≡◌, ⊤, ◌⊎◌, ℕ, suc, ◌-◌, ◌^◌, ◌==◌, Bool, ◌&&◌, List, ◌++◌, ◌∷◌, []}
use Rattle.std.specs.List.{filter, list_any}
use Rattle.lsm_codec.specs.Entries.{Entry}
use Rattle.lsm_model.specs.Plain.{without_snapshot}
use Rattle.lsm_slots.specs.Snapshots.{HasId}
use Rattle.lsm_state.specs.Held.{Held}
use Rattle.lsm_state.specs.declared.state_fault.StateFault.{StateFault}
use Rattle.lsm_state.specs.declared.state_fault.StateFault.TheVariants.{NumbersSpent, OutOfMemory}
use Rattle.lsm_state.specs.declared.state_fault.StateFault.TheVariants.{UnknownSnapshot}
use Rattle.lsm_channels.specs.Served.{IsLent}

-- The next number is that of a snapshot of the last sequence.
pub record TakesAt (was is : Held) (number sequence : ℕ) : Type 0 where
  pub number_is : number ≡ was.snapshots.next
  pub sequence_is : sequence ≡ was.slots.version.last
  pub left : is ≡ record was {
    snapshots = record {
      taken = was.snapshots.taken
          ++ (number, sequence) ∷ [];
      next = suc number;
    };
  }

-- The snapshot of this number was live, and is no more.
pub record ReleasesAt (was is : Held) (number : ℕ) : Type 0 where
  pub live : HasId was.snapshots.taken number
  pub left : is ≡ record was {
    snapshots = record was.snapshots
        { taken = without_snapshot number was.snapshots.taken };
  }

-- the numbers are spent, or memory ran out
abbrev pub IsTakeFault : Held → StateFault → Type 0
IsTakeFault h NumbersSpent = h.snapshots.next ≡ 2 ^ 64 - 1
IsTakeFault h OutOfMemory = ⊤
IsTakeFault h e = ⊥

-- ---- which of its own a channel knows

-- a snapshot of this number and this sequence is among these
abbrev pub is_among : List (ℕ × ℕ) → ℕ × ℕ → Bool
is_among live p = list_any (λ (q : ℕ × ℕ). (q.0 == p.0) && (q.1 == p.1)) live

-- All are known as before; or those alone that are live in the state.
abbrev pub Forgets : Held → (taken left : List (ℕ × ℕ)) → Type 0
Forgets h taken left = (left ≡ taken) ⊎ (left ≡ filter (is_among h.snapshots.taken) taken)

-- The one that was taken is known too.
abbrev pub Notes : Held → (number sequence : ℕ) → (taken left : List (ℕ × ℕ)) → Type 0
Notes h number sequence taken left =
    (mid : List (ℕ × ℕ)) × Forgets h taken mid × (left ≡ mid ++ (number, sequence) ∷ [])

-- ---- at one taking of the lock, of the state that it gave, which has all that the channel knew

abbrev pub IsTaken : (Held → Type 0) → (number sequence : ℕ) → (knew knows : List Entry)
    → (taken left : List (ℕ × ℕ))
    → Type 0
IsTaken keeps number sequence knew knows taken left =
    (was : Held) × (is : Held) × IsLent keeps was knew knows × TakesAt was is number sequence
    × Notes was number sequence taken left

abbrev pub IsUntaken : (Held → Type 0) → StateFault → (knew knows : List Entry)
    → (taken left : List (ℕ × ℕ)) → Type 0
IsUntaken keeps e knew knows taken left =
    (was : Held) × IsLent keeps was knew knows × IsTakeFault was e × Forgets was taken left

abbrev pub IsReleased : (Held → Type 0) → ℕ → (knew knows : List Entry) → Type 0
IsReleased keeps number knew knows =
    (was : Held) × (is : Held) × IsLent keeps was knew knows × ReleasesAt was is number

abbrev pub IsUnreleased : (Held → Type 0) → ℕ → StateFault → (knew knows : List Entry) → Type 0
IsUnreleased keeps number e knew knows =
    (was : Held) × IsLent keeps was knew knows × (e ≡ UnknownSnapshot number)
    × (HasId was.snapshots.taken number → ⊥)
