-- A database that stays where it is, before a manifest is begun that reads none of its logs
-- (LevelDB's `VersionSet::WriteSnapshot`; a log number above all logs, and no previous one, is what
-- its `DB::Open` leaves, once their writes are in a table).
use Rattle.std.specs.Prelude.{◌≡◌, ◌⊎◌, ℕ, ◌-◌, ◌^◌, ◌<◌, List, Some, max}
use Rattle.lsm_codec.specs.Lists.{Has}
use Rattle.lsm_manifest.specs.Shape.{Form}
use Rattle.lsm_manifest.specs.WholeEdit.{files_from, whole_edit}
use Rattle.lsm_import.specs.Copies.{HasLastNumber, IsAbove}
use Rattle.lsm_import.specs.declared.copied.Copied.{Copied}
use Rattle.lsm_import.specs.declared.import_fault.ImportFault.{ImportFault}
use Rattle.lsm_import.specs.declared.import_fault.ImportFault.TheVariants.{OutOfMemory}
use Rattle.lsm_import.specs.declared.import_fault.ImportFault.TheVariants.{NumbersSpent}

-- all of these are below the number
abbrev pub AreBelow : List ℕ → ℕ → Type 0
AreBelow numbers next = (n : ℕ) → Has numbers n → n < next

-- the one edit that spells the shape, with this number as the next file number and as the log
-- number,
-- and with no previous log
abbrev pub standing_of : Form → ℕ → Copied
standing_of shape next = record {
  edit = record (whole_edit shape) { log = Some next; prev_log = Some 0; next = Some next };
  next = next;
  last = shape.last;
  writes = 0;
}

-- The shape stands as it is, and its next file number, which is its log number, is above its tables
-- and these numbers, and not below the shape's own.
pub record IsStanding (shape : Form) (numbers : List ℕ) (standing : Copied) : Type 0 where
  pub next : ℕ
  pub above : IsAbove (max shape.next shape.log) (files_from 0 shape.levels) next
  pub below : AreBelow numbers next
  pub is : standing ≡ standing_of shape next

-- Why it does not: memory ran out, or a table of the shape, or one of these, has the last number.
abbrev pub IsNotStanding : Form → List ℕ → ImportFault → Type 0
IsNotStanding shape numbers fault =
    (fault ≡ OutOfMemory)
    ⊎ ((fault ≡ NumbersSpent)
    × (HasLastNumber (files_from 0 shape.levels) ⊎ Has numbers (2 ^ 64 - 1)))
