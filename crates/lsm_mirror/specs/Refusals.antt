-- The refusals of a mirror (this project's rule).
use Rattle.std.specs.Prelude.{◌≡◌, ◌⊎◌, ◌^◌, ◌<◌, true, ℕ, List, Option, Some, Ok, length}
use Rattle.lsm_shelf.specs.Asked.{Asked, Put, ReadAt, Load, Remove, ListTables, ReadManifest}
use Rattle.lsm_shelf.specs.Asked.{StartManifest, AppendManifest}
use Rattle.lsm_shelf.specs.declared.shelf_fault.ShelfFault.{ShelfFault}
use Rattle.lsm_shelf.specs.declared.shelf_fault.ShelfFault.TheVariants.{OutOfMemory, Device}
use Rattle.lsm_inflate.specs.PackedReading.{inflated_at}
use Rattle.lsm_mirror.specs.Shown.{IsBeside, Shown, usual}

-- No plain table of 1 GiB at most is made of the bytes.
abbrev pub IsNotMadePlain : List ℕ → Type 0
IsNotMadePlain packed =
    (plain : List ℕ) → inflated_at usual packed ≡ Ok (Some plain) → 2 ^ 30 < length plain

-- what lies below under the number is shown plain, and no plain table is made of it
abbrev pub IsNotPlain : (Below : ℕ → List ℕ → Type 0) → Shown → ℕ → Type 0
IsNotPlain Below shown number =
    (shown.inflates ≡ true) × (packed : List ℕ) × Below number packed × IsNotMadePlain packed

-- the table that lies nowhere has the number, and has more than 1 GiB
abbrev pub IsLargeMade : Option (ℕ × List ℕ) → ℕ → Type 0
IsLargeMade made number =
    (image : List ℕ) × (made ≡ Some (number, image)) × (2 ^ 30 < length image)

-- `Below` says which images lie on the shelf below under which numbers, and `Denied` which refusals
-- it has: memory ran out; or the table has more than 1 GiB; or it is refused below, or no plain
-- table is made of it.
abbrev pub RefusesLoad : (Below : ℕ → List ℕ → Type 0) → (Denied : Asked → ShelfFault → Type 0)
    → Shown → ℕ → ShelfFault → Type 0
RefusesLoad Below Denied shown number fault =
    (fault ≡ OutOfMemory)
    ⊎ (((fault ≡ Device) × IsLargeMade shown.made number)
    ⊎ (IsBeside shown.made number × (Denied (Load number) fault
    ⊎ ((fault ≡ Device) × IsNotPlain Below shown number))))

-- `Honest` says that reads below give the bytes that were put. Memory ran out; or the part is
-- refused below, or the whole of a table that is shown plain; or other bytes were read.
abbrev pub RefusesPart : (Denied : Asked → ShelfFault → Type 0) → (Honest : Type 0) → Shown
    → ℕ → ℕ → ℕ → ShelfFault → Type 0
RefusesPart Denied Honest shown number offset len fault =
    (fault ≡ OutOfMemory)
    ⊎ (Denied (ReadAt number offset len) fault
    ⊎ ((shown.inflates ≡ true) × (((size : ℕ) × Denied (ReadAt number 0 size) fault)
    ⊎ ((fault ≡ Device) × (Honest → ⊥)))))

-- What would write is refused, and nothing is asked below.
abbrev pub MirrorRefuses : (Below : ℕ → List ℕ → Type 0)
    → (Denied : Asked → ShelfFault → Type 0) → (Honest : Type 0) → Shown → Asked → ShelfFault
    → Type 0
MirrorRefuses Below Denied Honest shown (Put number image) fault = fault ≡ Device
MirrorRefuses Below Denied Honest shown (ReadAt number offset len) fault =
    RefusesPart Denied Honest shown number offset len fault
MirrorRefuses Below Denied Honest shown (Load number) fault =
    RefusesLoad Below Denied shown number fault
MirrorRefuses Below Denied Honest shown (Remove number) fault = fault ≡ OutOfMemory
MirrorRefuses Below Denied Honest shown ListTables fault = Denied ListTables fault
MirrorRefuses Below Denied Honest shown ReadManifest fault =
    (fault ≡ OutOfMemory) ⊎ Denied ReadManifest fault
MirrorRefuses Below Denied Honest shown (StartManifest number bytes) fault = fault ≡ Device
MirrorRefuses Below Denied Honest shown (AppendManifest bytes) fault = fault ≡ Device
