-- What is found of a database whose tables are not read, and why it is not (LevelDB's
-- `VersionSet::Recover`; what is judged of its tables, and which number comes next, are this
-- project's rules).
use Rattle.std.specs.Prelude.{◌≡◌, ℕ, ◌-◌, ◌^◌, ◌<◌, List}
use Rattle.lsm_codec.specs.Lists.{Has}
use Rattle.lsm_manifest.specs.Shape.{Form}
use Rattle.lsm_shelf.specs.Asked.{Asked, ListTables, Load}
use Rattle.lsm_shelf.specs.Refusals.{IsWantOr}
use Rattle.lsm_shelf.specs.declared.shelf_fault.ShelfFault.{ShelfFault}
use Rattle.lsm_shelf.specs.Told.{Told, Becomes, Counted, NotNamed, finding, listing}
use Rattle.lsm_verify.specs.CheckFault.{CheckCounted}
use Rattle.lsm_verify.specs.declared.check_fault.CheckFault.{CheckFault}
use Rattle.lsm_version.specs.Versions.{Levels}
use Rattle.lsm_journal.specs.HeldManifest.{HeldManifest}
use Rattle.lsm_journal.specs.Finding.{IsLeastFree, IsWithoutRoom, taken_numbers}
use Rattle.lsm_journal.specs.Recovering.{IsRecovered, IsRecoverRefusal}
use Rattle.lsm_journal.specs.declared.open_fault.OpenFault.{OpenFault}
use Rattle.lsm_journal.specs.declared.open_fault.OpenFault.TheVariants.{OutOfMemory, Shelf, Recover}
use Rattle.lsm_journal.specs.declared.open_fault.OpenFault.TheVariants.{Check, NumbersSpent}
use Rattle.lsm_admission.specs.AdmitRefusal.{IsAdmitRefusal}
use Rattle.lsm_admission.specs.FoundTables.{IsFoundFrom}
use Rattle.lsm_journal.specs.declared.manifest_limit.ManifestLimit.{ManifestLimit}

-- The manifest that was read comes to the shape, with so many bytes at its end that hold no whole
-- record; the tables of the version were found for the files of that shape, and none was read. The
-- next number is the least that is at least the manifest's next file number and above every number
-- that is taken. The shelf was read and listed, and nothing was written.
pub record IsAdmitted (Keeps : ℕ → List ℕ → Type 0) (shape : Form) (limit : ManifestLimit)
    (h : HeldManifest) (v : Levels) (rest next : ℕ) (was is : Told) : Type 0 where
  pub listed : List ℕ
  pub recovered : IsRecovered h shape rest
  pub found : IsFoundFrom Keeps shape v
  pub limit_is : h.limit ≡ limit
  pub least : IsLeastFree shape.next (taken_numbers listed v h.number) next
  pub fits : next < 2 ^ 64
  pub told : Becomes (listing listed (finding h.number h.bytes was)) is

-- ---- refusals

-- The manifest was read, and the tables of its shape are not admitted.
pub record IsNotAdmitted (Keeps : ℕ → List ℕ → Type 0) (Refused : Asked → ShelfFault
    → Type 0) (e : CheckFault) (was is : Told) : Type 0 where
  pub held : HeldManifest
  pub shape : Form
  pub rest : ℕ
  pub recovered : IsRecovered held shape rest
  pub why : IsAdmitRefusal Keeps (λ number. Refused (Load number)) shape e
  pub cause : CheckCounted e was is
  pub told : Becomes (finding held.number held.bytes was) is

-- They are, and the shelf did not list its tables.
pub record IsUnlisted (Keeps : ℕ → List ℕ → Type 0) (Refused : Asked → ShelfFault
    → Type 0) (e : ShelfFault) (was is : Told) : Type 0 where
  pub held : HeldManifest
  pub shape : Form
  pub rest : ℕ
  pub version : Levels
  pub recovered : IsRecovered held shape rest
  pub found : IsFoundFrom Keeps shape version
  pub cause : NotNamed e × Counted e was is
  pub asked : IsWantOr (Refused ListTables) e
  pub told : Becomes (finding held.number held.bytes was) is

-- A number that is taken is 2^64 - 1.
pub record IsTakenLast (Keeps : ℕ → List ℕ → Type 0) (was is : Told) : Type 0 where
  pub held : HeldManifest
  pub shape : Form
  pub rest : ℕ
  pub version : Levels
  pub listed : List ℕ
  pub recovered : IsRecovered held shape rest
  pub found : IsFoundFrom Keeps shape version
  pub spent : Has (taken_numbers listed version held.number) (2 ^ 64 - 1)
  pub told : Becomes (listing listed (finding held.number held.bytes was)) is

-- Why nothing is found, in this order: the manifest could not be read; the tables of its shape are
-- not admitted; they could not be listed; a number that is taken is the last. Memory may run out on
-- the way.
abbrev pub IsOpenRefusal : (ℕ → List ℕ → Type 0) → (Asked → ShelfFault → Type 0) → OpenFault → Told
    → Told → Type 0
IsOpenRefusal Keeps Refused (Recover e) was is = IsRecoverRefusal Refused e was is
IsOpenRefusal Keeps Refused (Check e) was is = IsNotAdmitted Keeps Refused e was is
IsOpenRefusal Keeps Refused (Shelf e) was is = IsUnlisted Keeps Refused e was is
IsOpenRefusal Keeps Refused NumbersSpent was is = IsTakenLast Keeps was is
IsOpenRefusal Keeps Refused OutOfMemory was is = IsWithoutRoom was is
