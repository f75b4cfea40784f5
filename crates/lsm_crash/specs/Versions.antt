-- What a manifest's bytes come to, and how a record leads from one version to the next.
use Rattle.std.specs.Prelude.{◌≡◌, ℕ, ◌%◌, ◌^◌, ◌<◌, ◌≤◌, List, [], ◌∷◌, ◌++◌, length, get_or}
use Rattle.std.specs.Prelude.{Option, Some}
use Rattle.lsm_codec.specs.Lists.{Has}
use Rattle.lsm_manifest.specs.Edit.{IsEdit}
use Rattle.lsm_manifest.specs.EditFit.{Change}
use Rattle.lsm_manifest.specs.FileOrder.{TableFile}
use Rattle.lsm_manifest.specs.LogWriting.{record_text}
use Rattle.lsm_manifest.specs.Manifest.{IsManifest}
use Rattle.lsm_manifest.specs.Shape.{Form, IsReplayed}

-- which files lie at which level, with the last numbers and pointers
abbrev pub Version : Type 0
Version = Form

-- The whole records at the front of the bytes are edits, and these come to the version.
pub record ComesTo (bytes : List ℕ) (v : Version) : Type 0 where
  pub edits : List Change
  pub rest : ℕ
  pub manifest : IsManifest bytes edits rest
  pub replayed : IsReplayed edits v

-- a file of this number lies at a level of the version
abbrev pub IsNamed : Version → ℕ → Type 0
IsNamed v number = (level : ℕ) × (file : TableFile) × (level ≤ 6)
    × Has (get_or v.levels level []) file × (file.number ≡ number)

-- The text is the record of one edit more, behind a manifest that no torn record ends: with it the
-- edits come to the new version.
pub record LeadsTo (bytes text : List ℕ) (old new : Version) : Type 0 where
  pub edits : List Change
  pub own : List ℕ
  pub edit : Change
  pub manifest : IsManifest bytes edits 0
  pub replayed : IsReplayed edits old
  pub spelled : IsEdit own edit
  pub text_is : text ≡ record_text (length bytes % 32768) own
  pub becomes : IsReplayed (edits ++ edit ∷ []) new

-- the images of the tables that are counted on, by number
abbrev pub Tables : Type 0
Tables = ℕ → Option (List ℕ)

-- their numbers fit 64 bits
abbrev pub AreSmall : Tables → Type 0
AreSmall tables = (number : ℕ) (image : List ℕ) → tables number ≡ Some image → number < 2 ^ 64

-- each file of the version is one of the tables
abbrev pub AreThere : Version → Tables → Type 0
AreThere v tables = (number : ℕ) → IsNamed v number → (image : List ℕ)
    × (tables number ≡ Some image)
