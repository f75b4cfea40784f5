-- What is kept of the tables on the shelf, and what a collect removes (this project's rule).
use Rattle.std.specs.Prelude.{◌≡◌, ℕ, ◌⊎◌, ◌↔◌, Bool, true, false, List, [], ◌∷◌, ◌++◌, map, not}
use Rattle.std.specs.Prelude.{◌==◌, Err}
use Rattle.std.specs.List.{filter, list_any}
use Rattle.lsm_codec.specs.Lists.{Has}
use Rattle.lsm_model.specs.Files.{File}
use Rattle.lsm_version.specs.Versions.{files}
use Rattle.lsm_shelf.specs.Asked.{Asked, Remove}
use Rattle.lsm_shelf.specs.Told.{Told, Becomes, Counted, CountedBy, NotTaken, listing}
use Rattle.lsm_shelf.specs.Told.{removed_by, removing}
use Rattle.lsm_shelf.specs.declared.shelf_fault.ShelfFault.{ShelfFault}
use Rattle.lsm_shelf.specs.declared.shelf_fault.ShelfFault.TheVariants as shelf
use Rattle.lsm_slots.specs.Slots.{Epoch, HasEpoch, Looked, looks_around, looks_of}
use Rattle.lsm_live.specs.Booked.{Booked}
use Rattle.lsm_merge.specs.Outputs.{going}
-- no count rose
pub use Rattle.lsm_journal.specs.Recovering.{SameCounts}
use Rattle.lsm_state.specs.Held.{Held}
use Rattle.lsm_state.specs.declared.state_fault.StateFault.{StateFault}
use Rattle.lsm_state.specs.declared.state_fault.StateFault.TheVariants.{Halted, OutOfMemory, Shelf}

-- a version that has a slot names the number, or a live job has drawn it
abbrev pub IsKeptNumber : Held → ℕ → Type 0
IsKeptNumber h n = ((slot : ℕ) × (e : Epoch) × (F : File) × HasEpoch h.slots slot e
    × Has (files e.version) F × (F.number ≡ n))
    ⊎ ((b : Booked) × Has h.live b × Has b.drawn n)

abbrev pub is_in : List ℕ → ℕ → Bool
is_in ns n = list_any (λ m. m == n) ns

-- the numbers of the list that are not kept
abbrev pub outside : List ℕ → List ℕ → List ℕ
outside kept ns = filter (λ n. not (is_in kept n)) ns

-- removals of these numbers, in order
abbrev pub removals_of : List ℕ → List Asked
removals_of ns = map (λ n. Remove n) ns

-- these numbers were removed one after another
abbrev pub removing_all : List ℕ → Told → Told
removing_all ns t = record t { gone = going ns t.gone; made = going (removals_of ns) t.made }

-- just the listed numbers that are not kept were removed
pub record AreCollected (h : Held) (removed : List ℕ) (was is : Told) : Type 0 where
  pub listed : List ℕ
  pub kept : List ℕ
  pub kept_are : (n : ℕ) → Has kept n ↔ IsKeptNumber h n
  pub removed_are : removed ≡ outside kept listed
  pub told : Becomes (removing_all removed (listing listed was)) is

-- The removal of numbers stopped: those at the front were removed, and the next one was perhaps
-- asked for.
pub record IsStopped (ns removed : List ℕ) (was is : Told) : Type 0 where
  pub back : List ℕ
  pub parts : ns ≡ removed ++ back
  pub asked : Becomes (removing_all removed was) is
      ⊎ ((n : ℕ) × (rest : List ℕ) × (back ≡ n ∷ rest)
      × Becomes (removing_all (removed ++ n ∷ []) was) is)

-- No table was removed, since the numbers were not known; or the removal of those that are not kept
-- stopped.
abbrev pub StoppedEarly : Held → List ℕ → Told → Told → Type 0
StoppedEarly h removed was is = ((removed ≡ []) × Becomes was is)
    ⊎ ((listed : List ℕ) × (kept : List ℕ) × ((n : ℕ) → Has kept n ↔ IsKeptNumber h n)
    × IsStopped (outside kept listed) removed (listing listed was) is)

-- no table went but those of the list, and nothing else was changed
abbrev pub TellsAll : List ℕ → Told → Told → Type 0
TellsAll removed was is = (is.gone ≡ going removed was.gone)
    × (is.made ≡ going (removals_of removed) was.made)

-- the shelf was refused memory
abbrev pub IsRefusedMemory : ShelfFault → Type 0
IsRefusedMemory shelf.OutOfMemory = Unit {0}
IsRefusedMemory fault = ⊥

-- memory was refused, to the state or to the shelf
abbrev pub IsWantOfMemory : StateFault → Type 0
IsWantOfMemory OutOfMemory = Unit {0}
IsWantOfMemory (Shelf fault) = IsRefusedMemory fault
IsWantOfMemory e = ⊥

-- memory was refused, or the shelf refused, with a count that rose
abbrev pub IsMemoryOrShelf : StateFault → Told → Told → Type 0
IsMemoryOrShelf OutOfMemory was is = Unit {0}
IsMemoryOrShelf (Shelf fault) was is = Counted fault was is
IsMemoryOrShelf e was is = ⊥

-- What a refused call counted: a refusal of the shelf, which is no `Taken`, just once, and else
-- nothing.
abbrev pub IsCountedOnce : StateFault → Told → Told → Type 0
IsCountedOnce OutOfMemory was is = SameCounts was is
IsCountedOnce Halted was is = SameCounts was is
IsCountedOnce (Shelf fault) was is = NotTaken fault × CountedBy {T = Unit {0}} (Err fault) was is
IsCountedOnce e was is = ⊥

-- each slot that may turn free was looked at once, and no other
pub record HasLookedAround (old new : Held) : Type 0 where
  pub looked : Looked old.slots new.slots
  pub looks : looks_of new.slots ≡ looks_around old.slots

-- Why a collect is refused: the state is halted, and nothing was done; else it stopped early.
abbrev pub IsCollectRefusal : Held → Held → StateFault → List ℕ → Told → Told → Type 0
IsCollectRefusal old new e removed was is =
    ((e ≡ Halted) × (old.halted ≡ true) × (new ≡ old) × (removed ≡ []) × Becomes was is)
    ⊎ ((old.halted ≡ false) × HasLookedAround old new × StoppedEarly new removed was is
    × IsMemoryOrShelf e was is)

-- One table was removed, which is not kept; or it is kept, and stays.
abbrev pub IsRemovedOrKept : Held → (number : ℕ) → (removed : Bool) → Told → Told → Type 0
IsRemovedOrKept h number true was is =
    (IsKeptNumber h number → ⊥) × Becomes (removing number was) is
IsRemovedOrKept h number false was is = IsKeptNumber h number × (is ≡ was)

-- Why one table is not removed: the state is halted; or memory was wanted; or the shelf refused.
abbrev pub IsRemoveRefusal : Held → (number : ℕ) → StateFault → Told → Told → Type 0
IsRemoveRefusal h number Halted was is = (h.halted ≡ true) × (is ≡ was)
IsRemoveRefusal h number OutOfMemory was is = (h.halted ≡ false) × (is ≡ was)
IsRemoveRefusal h number (Shelf fault) was is = (h.halted ≡ false) × (IsKeptNumber h number → ⊥)
    × Becomes (removed_by {T = Unit {0}} (Err fault) number was) is
    × CountedBy {T = Unit {0}} (Err fault) was is
IsRemoveRefusal h number e was is = ⊥
