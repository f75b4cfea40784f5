-- What a user key answers in a database whose tables nobody judged, and why it does not (this
-- project's rule).
use Rattle.std.specs.Prelude.{◌≡◌, ℕ, List, Option}
use Rattle.lsm_codec.specs.Entries.{answer}
use Rattle.lsm_manifest.specs.Shape.{Form}
use Rattle.lsm_model.specs.Files.{all_entries}
use Rattle.lsm_reader.specs.Refusals.{IsSomeReadRefusal}
use Rattle.lsm_shelf.specs.Asked.{Asked}
use Rattle.lsm_shelf.specs.declared.shelf_fault.ShelfFault.{ShelfFault}
use Rattle.lsm_shelf.specs.Told.{Told}
use Rattle.lsm_table.specs.ReadFault.{IsMemoryOrShelf}
use Rattle.lsm_table.specs.declared.read_fault.ReadFault.{ReadFault}
use Rattle.lsm_verify.specs.CheckRefusal.{IsOfShape}
use Rattle.lsm_version.specs.Versions.{IsSound, Levels, files}
use Rattle.lsm_journal.specs.HeldManifest.{HeldManifest}
use Rattle.lsm_admission.specs.Admitted.{IsAdmitted, IsOpenRefusal}
use Rattle.lsm_admission.specs.Keeping.{KeepsTables}
use Rattle.lsm_admission.specs.declared.answer_fault.AnswerFault.{AnswerFault}
use Rattle.lsm_admission.specs.declared.answer_fault.AnswerFault.TheVariants.{Open, Read}
use Rattle.lsm_journal.specs.declared.manifest_limit.ManifestLimit.{ManifestLimit}

-- The database of a manifest with this shape was admitted, and no byte of a table was read till
-- then. Where `Kept` holds its version is of the shape and sound, and the answer is that of all
-- entries of its tables, at the last sequence.
pub record IsAnswered (Keeps : ℕ → List ℕ
    → Type 0) (Kept : Type 0) (shape : Form) (user : List ℕ) (a : Option (List ℕ)) (was is : Told)
    : Type 0 where
  pub held : HeldManifest
  pub version : Levels
  pub rest : ℕ
  pub next : ℕ
  pub limit : ManifestLimit
  pub admitted : IsAdmitted Keeps shape limit held version rest next was is
  pub of_shape : Kept → IsOfShape shape version
  pub sound : Kept → IsSound version
  pub answer : Kept → a ≡ answer (all_entries (files version)) user shape.last

-- It was admitted, and a read of a table is refused: where `Kept` holds, by the shelf or for want
-- of memory.
pub record IsUnread (Keeps : ℕ → List ℕ → Type 0) (Refused : Asked → ShelfFault
    → Type 0) (Kept : Type 0) (shape : Form) (fault : ReadFault) (was is : Told) : Type 0 where
  pub held : HeldManifest
  pub version : Levels
  pub rest : ℕ
  pub next : ℕ
  pub limit : ManifestLimit
  pub admitted : IsAdmitted Keeps shape limit held version rest next was is
  pub asked : IsSomeReadRefusal Refused fault
  pub sound : Kept → IsMemoryOrShelf fault

-- The manifest of this shape was read, and the database is not admitted; or a read of it is
-- refused.
abbrev pub IsRefusedOf : (ℕ → List ℕ → Type 0) → (Asked → ShelfFault → Type 0) → Type 0 → Form
    → AnswerFault → Told → Told → Type 0
IsRefusedOf Keeps Refused Kept shape (Open fault) was is =
    IsOpenRefusal Keeps Refused fault was is
IsRefusedOf Keeps Refused Kept shape (Read fault) was is =
    IsUnread Keeps Refused Kept shape fault was is

-- ---- from the manifest to the answer

-- The shelf gave a manifest; under `Honest`, and where the shelf keeps the tables of the shape that
-- this manifest comes to, the answer is that of all entries.
abbrev pub Answers : (ℕ → List ℕ → Type 0) → Type 0 → List ℕ → Option (List ℕ) → Told → Told
    → Type 0
Answers Keeps Honest user a was is =
    (shape : Form) × IsAnswered Keeps (Honest × KeepsTables Keeps shape) shape user a was is

-- The database is not found, or a read of it is refused.
abbrev pub IsAnswerRefusal : (ℕ → List ℕ → Type 0) → (Asked → ShelfFault → Type 0) → Type 0
    → AnswerFault → Told → Told → Type 0
IsAnswerRefusal Keeps Refused Honest (Open fault) was is =
    IsOpenRefusal Keeps Refused fault was is
IsAnswerRefusal Keeps Refused Honest (Read fault) was is =
    (shape : Form) × IsUnread Keeps Refused (Honest × KeepsTables Keeps shape) shape fault was is
