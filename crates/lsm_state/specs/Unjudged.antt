-- What a state is when its database is opened and its tables are found and not judged, and why it
-- is not (this project's rule; LevelDB judges none).
use Rattle.std.specs.Prelude.{◌≡◌, ◌⊎◌, ℕ, List}
use Rattle.lsm_shelf.specs.Asked.{Asked}
use Rattle.lsm_shelf.specs.declared.shelf_fault.ShelfFault.{ShelfFault}
use Rattle.lsm_shelf.specs.Told.{Told, Becomes}
use Rattle.lsm_manifest.specs.Shape.{Form}
use Rattle.lsm_verify.specs.CheckFault.{CheckCounted}
use Rattle.lsm_verify.specs.declared.check_fault.CheckFault.{CheckFault}
use Rattle.lsm_version.specs.Versions.{Levels}
use Rattle.lsm_journal.specs.HeldManifest.{HeldManifest}
use Rattle.lsm_journal.specs.declared.manifest_limit.ManifestLimit.{ManifestLimit}
use Rattle.lsm_journal.specs.declared.open_fault.OpenFault.{OpenFault}
use Rattle.lsm_journal.specs.declared.open_fault.OpenFault.TheVariants.{Check}
use Rattle.lsm_admission.specs.Admitted.{IsAdmitted, IsOpenRefusal}
use Rattle.lsm_admission.specs.Indexes.{IsIndexRefusal, all_tables}
use Rattle.lsm_state.specs.Opening.{IsAnew, IsNotAnew}

-- A table of the version was found for each file of the shape that the manifest comes to. The
-- manifest held is a new one, whose one edit spells the version, and has the number that was next.
pub record IsBegunUnjudged (Keeps : ℕ → List ℕ → Type 0) (shape : Form) (limit : ManifestLimit)
    (h : HeldManifest) (v : Levels) (next : ℕ) (was is : Told) : Type 0 where
  pub before : HeldManifest
  pub rest : ℕ
  pub number : ℕ
  pub read : Told
  pub admitted : IsAdmitted Keeps shape limit before v rest number was read
  pub anew : IsAnew v number before h next read is

-- ---- refusals

-- The tables were found; of what was found then this holds.
pub record IsFoundThen (Keeps : ℕ → List ℕ → Type 0) (shape : Form) (limit : ManifestLimit)
    (Holds : HeldManifest → Levels → ℕ → Told → Type 0) (was : Told) : Type 0 where
  pub held : HeldManifest
  pub version : Levels
  pub rest : ℕ
  pub number : ℕ
  pub read : Told
  pub admitted : IsAdmitted Keeps shape limit held version rest number was read
  pub holds : Holds held version number read

-- one of them has no index, or a read of it is refused; nothing was written
abbrev pub IsUnindexed : (ℕ → List ℕ → Type 0) → (Asked → ShelfFault → Type 0) → Type 0 → Form
    → ManifestLimit → CheckFault → Told → Told → Type 0
IsUnindexed Keeps Refused Honest shape limit e was is =
    IsFoundThen Keeps shape limit (λ held v number read.
    IsIndexRefusal Refused Honest (all_tables v.tables) e × CheckCounted e read is
    × Becomes read is) was

-- they have, and no new manifest begins
abbrev pub IsNotBegun : (ℕ → List ℕ → Type 0) → (Asked → ShelfFault → Type 0) → Form
    → ManifestLimit → OpenFault → Told → Told → Type 0
IsNotBegun Keeps Refused shape limit e was is =
    IsFoundThen Keeps shape limit
    (λ held v number read. IsNotAnew Refused v number held e read is) was

-- Why no database is opened, in this order: it is not found; a table has no index; no new manifest
-- begins. Memory may run out on the way. `Keeps` says which images the shelf keeps under which
-- numbers, `Refused` which calls it may refuse with which faults; `Honest` is of the shelf alone.
abbrev pub IsUnjudgedRefusal : (ℕ → List ℕ → Type 0) → (Asked → ShelfFault → Type 0) → Type 0
    → Form → ManifestLimit → OpenFault → Told → Told → Type 0
IsUnjudgedRefusal Keeps Refused Honest shape limit e was is =
    IsOpenRefusal Keeps Refused e was is
    ⊎ (((fault : CheckFault) × (e ≡ Check fault)
    × IsUnindexed Keeps Refused Honest shape limit fault was is)
    ⊎ IsNotBegun Keeps Refused shape limit e was is)
