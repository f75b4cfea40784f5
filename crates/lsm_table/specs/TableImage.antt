-- Tables on their way to a shelf: begun, built, and put (this project's rule).
use Rattle.std.specs.Prelude.{◌≡◌, ℕ, ◌⊎◌, List, [], ◌∷◌, Err}
use Rattle.lsm_codec.specs.Entries.{Entry, internal_key}
use Rattle.lsm_codec.specs.Keys.{IsKey}
use Rattle.lsm_shelf.specs.Told.{Told, Becomes, CountedBy, TakenIs, putting}
use Rattle.lsm_shelf.specs.declared.shelf_fault.ShelfFault.{ShelfFault}
use Rattle.lsm_shelf.specs.declared.shelf_fault.ShelfFault.TheVariants.{OutOfMemory}
use Rattle.lsm_table.specs.Registry.{Table}

-- there is an entry, and the bytes are those of the key of the first one
abbrev pub IsBegun : List ℕ → List Entry → Type 0
IsBegun smallest [] = ⊥
IsBegun smallest (e ∷ es) = IsKey smallest (internal_key e)

-- a table's bytes, and its first and last internal key
pub record Imaged : Type 0 where
  pub smallest : List ℕ
  pub largest : List ℕ
  pub bytes : List ℕ

-- the record of the registry stands for the image that was put under this number
pub record IsPutAs (i : Imaged) (number : ℕ) (t : Table) : Type 0 where
  pub number_is : t.number ≡ number
  pub smallest : t.smallest ≡ i.smallest
  pub largest : t.largest ≡ i.largest
  pub image : t.image ≡ i.bytes

-- Why a put is refused, and what the shelf was told: nothing, or the table was put and its record
-- found no memory.
abbrev pub IsPutRefusal : ℕ → List ℕ → ShelfFault → Told → Told → Type 0
IsPutRefusal number image fault was is = TakenIs number fault
    × CountedBy {T = Unit {0}} (Err fault) was is
    × (Becomes was is ⊎ ((fault ≡ OutOfMemory) × Becomes (putting number image was) is))
