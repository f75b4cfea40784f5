-- What is found of a database that is there, and why it is not (LevelDB's `VersionSet::Recover`;
-- the judgment of its tables, and which number comes next, are this project's rules).
use Rattle.std.specs.Prelude.{◌≡◌, ℕ, ◌-◌, ◌^◌, ◌<◌, ◌≤◌, ◌⊎◌, List, [], ◌∷◌, ◌++◌}
use Rattle.lsm_codec.specs.Lists.{Has}
use Rattle.lsm_shelf.specs.Asked.{Asked, ListTables, Load}
use Rattle.lsm_shelf.specs.Refusals.{IsWantOr}
use Rattle.lsm_shelf.specs.declared.shelf_fault.ShelfFault.{ShelfFault}
use Rattle.lsm_shelf.specs.Told.{Told, Becomes, Counted, NotNamed, finding, listing}
use Rattle.lsm_manifest.specs.Shape.{Form}
use Rattle.lsm_verify.specs.CheckFault.{CheckCounted}
use Rattle.lsm_verify.specs.CheckRefusal.{IsOfShape, IsRefusal}
use Rattle.lsm_version.specs.FileNumbers.{AreDistinct, numbers_of}
use Rattle.lsm_verify.specs.Settled.{IsSettled, KeepsAge}
use Rattle.lsm_version.specs.Versions.{IsSound, Levels, files, numbers_in}
use Rattle.lsm_verify.specs.declared.check_fault.CheckFault.{CheckFault}
use Rattle.lsm_journal.specs.HeldManifest.{HeldManifest}
use Rattle.lsm_journal.specs.declared.manifest_limit.ManifestLimit.{ManifestLimit}
use Rattle.lsm_journal.specs.Recorded.{IsRecorded}
use Rattle.lsm_journal.specs.Writing.{metas_of}
use Rattle.lsm_journal.specs.Recovering.{IsRecovered, IsRecoverRefusal, RecoverCounted}
use Rattle.lsm_journal.specs.declared.open_fault.OpenFault.{OpenFault}
use Rattle.lsm_journal.specs.declared.open_fault.OpenFault.TheVariants.{OutOfMemory, Shelf, Recover}
use Rattle.lsm_journal.specs.declared.open_fault.OpenFault.TheVariants.{Check, NumbersSpent}

-- ---- the next file number

-- the number is at least the first one, and above each of these
abbrev pub IsFree : ℕ → List ℕ → ℕ → Type 0
IsFree from taken n = (from ≤ n) × ((m : ℕ) → Has taken m → m < n)

-- the least such number
abbrev pub IsLeastFree : ℕ → List ℕ → ℕ → Type 0
IsLeastFree from taken n = IsFree from taken n × ((m : ℕ) → IsFree from taken m → n ≤ m)

-- the numbers that are taken: of the tables that are listed, of those of the version, and of the
-- manifest
abbrev pub taken_numbers : List ℕ → Levels → ℕ → List ℕ
taken_numbers listed version manifest = (listed ++ numbers_in version) ++ manifest ∷ []

-- ---- what is read

-- The version has a table of the number, the size and the keys of each file of the shape, in their
-- order, and the shape's pointers and last sequence. Of what its tables hold nothing is said.
pub record IsNamedBy (shape : Form) (v : Levels) : Type 0 where
  pub files : metas_of v.tables ≡ shape.levels
  pub pointers : v.pointers ≡ shape.pointers
  pub last : v.last ≡ shape.last

-- The manifest that was read comes to the shape, with so many bytes at its end that hold no whole
-- record. The version is of that shape, in which no number stands twice; so the manifest records
-- the version.
pub record IsLoaded (Honest : Type 0) (h : HeldManifest) (shape : Form) (rest : ℕ) (v : Levels)
    : Type 0 where
  pub recovered : IsRecovered h shape rest
  pub of_shape : IsOfShape shape v
  pub numbers : AreDistinct (numbers_of shape.levels)
  pub recorded : IsRecorded rest h v shape.next
  -- where ranges and sequences leave no age open, or ages are in order, whatever the shelf is
  pub settled : IsSettled (files v) → IsSound v
  pub judged : KeepsAge (files v) → IsSound v
  pub sound : Honest → IsSound v

-- The manifest that was read comes to a shape, whose log numbers are those held, and records the
-- version of that shape; so many bytes at its end hold no whole record. The next number is the
-- least that is at least the manifest's next file number and above every number that is taken. The
-- shelf was read and listed, and nothing was written.
pub record IsFound (Honest : Type 0) (limit : ManifestLimit) (h : HeldManifest) (v : Levels)
    (rest next : ℕ) (was is : Told) : Type 0 where
  pub shape : Form
  pub listed : List ℕ
  pub loaded : IsLoaded Honest h shape rest v
  pub limit_is : h.limit ≡ limit
  pub least : IsLeastFree shape.next (taken_numbers listed v h.number) next
  pub fits : next < 2 ^ 64
  pub told : Becomes (listing listed (finding h.number h.bytes was)) is

-- ---- refusals

-- The manifest was read, and the tables of its shape are no version.
pub record IsNoVersion (Stored : ℕ → List ℕ → Type 0) (Refused : Asked → ShelfFault
    → Type 0) (Honest : Type 0) (e : CheckFault) (was is : Told) : Type 0 where
  pub held : HeldManifest
  pub shape : Form
  pub rest : ℕ
  pub recovered : IsRecovered held shape rest
  pub why : IsRefusal Stored (λ number. Refused (Load number)) Honest shape e
  pub cause : CheckCounted e was is
  pub told : Becomes (finding held.number held.bytes was) is

-- There is a version, and the shelf did not list its tables.
pub record IsUnlisted (Refused : Asked → ShelfFault
    → Type 0) (Honest : Type 0) (e : ShelfFault) (was is : Told) : Type 0 where
  pub held : HeldManifest
  pub shape : Form
  pub rest : ℕ
  pub version : Levels
  pub loaded : IsLoaded Honest held shape rest version
  pub cause : NotNamed e × Counted e was is
  pub asked : IsWantOr (Refused ListTables) e
  pub told : Becomes (finding held.number held.bytes was) is

-- A number that is taken is 2^64 - 1.
pub record IsTakenLast (Honest : Type 0) (was is : Told) : Type 0 where
  pub held : HeldManifest
  pub shape : Form
  pub rest : ℕ
  pub version : Levels
  pub listed : List ℕ
  pub loaded : IsLoaded Honest held shape rest version
  pub spent : Has (taken_numbers listed version held.number) (2 ^ 64 - 1)
  pub told : Becomes (listing listed (finding held.number held.bytes was)) is

-- Memory ran out after the manifest was read: before the tables were listed, or after that.
pub record IsWithoutRoom (was is : Told) : Type 0 where
  pub held : HeldManifest
  pub shape : Form
  pub rest : ℕ
  pub recovered : IsRecovered held shape rest
  pub told : Becomes (finding held.number held.bytes was) is
      ⊎ ((listed : List ℕ) × Becomes (listing listed (finding held.number held.bytes was)) is)

-- Why nothing is read, in this order: the manifest could not be read; the tables of its shape are
-- no version; they could not be listed; a number that is taken is the last. Memory may run out on
-- the way.
abbrev pub IsFindRefusal : (ℕ → List ℕ → Type 0) → (Asked → ShelfFault → Type 0) → Type 0
    → OpenFault → Told → Told → Type 0
IsFindRefusal Stored Refused Honest (Recover e) was is = IsRecoverRefusal Refused e was is
IsFindRefusal Stored Refused Honest (Check e) was is = IsNoVersion Stored Refused Honest e was is
IsFindRefusal Stored Refused Honest (Shelf e) was is = IsUnlisted Refused Honest e was is
IsFindRefusal Stored Refused Honest NumbersSpent was is = IsTakenLast Honest was is
IsFindRefusal Stored Refused Honest OutOfMemory was is = IsWithoutRoom was is

-- Where the manifest could not be read, the shelf was asked for it once, and a refusal counted
-- once.
abbrev pub IsReadOnce : OpenFault → Told → Told → Type 0
IsReadOnce (Recover e) was is = RecoverCounted e was is
IsReadOnce (Check e) was is = Unit {0}
IsReadOnce (Shelf e) was is = Unit {0}
IsReadOnce NumbersSpent was is = Unit {0}
IsReadOnce OutOfMemory was is = Unit {0}

-- The manifest was read.
abbrev pub IsAfterManifest : OpenFault → Type 0
IsAfterManifest (Recover e) = ⊥
IsAfterManifest (Check e) = Unit {0}
IsAfterManifest (Shelf e) = Unit {0}
IsAfterManifest NumbersSpent = Unit {0}
IsAfterManifest OutOfMemory = Unit {0}
